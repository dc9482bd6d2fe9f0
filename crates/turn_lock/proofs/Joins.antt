-- Seat 0 makes a seat, and takes one in: each keeps the rule.
use Rattle.std.proofs.Common.{◌≡◌, ◌≢◌, ◌⊎◌, inl, inr, ⊎_elim, ℕ, zero, suc, ◌+◌, ◌<◌, true, false, Option, List, [], ◌∷◌, ◌++◌, length, set, ℤ, All, refl, ap, sym, subst, ◌∙◌, arith, length-set, length-append, true≢false}
use Rattle.std.proofs.lemmas.List.Elements.{All-push}
use mathlib.Core.Logic.{dite}
use mathlib.Core.Option.{some, none, some-injective, some-ne-none}
use native.Mathlib.Decide.{ℕ_discrete}
use lib.ListN.{get_elem?}
use Rattle.atomic_table.specs.Table.{State, Me, step, keeps, Allows, Splits, Joins}
use Rattle.atomic_table.proofs.Lists.{at_set, set_here, set_else, at_longer}
use Rattle.turn_lock.specs.declared.rule.View.{View}
use Rattle.turn_lock.specs.Histories.{entries_of, longer}
use Rattle.turn_lock.specs.OneHistory.{Knows, IsJoined, OneHistory}
use Rattle.turn_lock.specs.Steps.{has_split, split_off, has_joined, spent, Compares}
use Rattle.turn_lock.proofs.Beginnings.{begins_any}
use Rattle.turn_lock.proofs.Entries.{entries_between, entries_none}
use Rattle.turn_lock.proofs.Longer.{longer_begins, shorter_begins, longer_whole, both_begin}
use Rattle.turn_lock.proofs.Views.{one_at, at_within, live_apart, live_stays, live_less, live_more}
use Rattle.turn_lock.proofs.Keeps.{quiet, accounts}

-- an element of a list with one more is an element of the list, or the one more at the end
at_end : {A : Type 0} (l : List A) (a b : A) (j : ℕ) → get_elem? (l ++ a ∷ []) j ≡ some b → (get_elem? l j ≡ some b) ⊎ ((j ≡ length l) × (a ≡ b))
at_end [] a b zero e = inr (refl, some-injective a b e)
at_end [] a b (suc j) e = absurd (some-ne-none b (sym e))
at_end (x ∷ xs) a b zero e = inl e
at_end (x ∷ xs) a b (suc j) e = ⊎_elim (λ (t : get_elem? xs j ≡ some b). inl t) (λ (t : (j ≡ length xs) × (a ≡ b)). let n = t.0 in inr (omega arith, t.1)) (at_end xs a b j e)

module _ {T E : Type 0} (stands : T → List (ℕ × E) → Type 0) (setting_of : T → List ℤ) (setting : List ℤ) where
  abbrev St : Type 0
  St = State (Option T) (View E)

  abbrev Rule : St → Type 0
  Rule = OneHistory stands setting_of setting

  pub splits : (id : ℕ) (v : View E) → v.live ≡ true → v.actor ≡ 0 → Splits Rule id v (has_split v) (split_off v)
  splits id v live first s r at =
      let w : View E = has_split v in let u : View E = split_off v in let vs : List (View E) = set s.views id w in
      let k = r.each id v at live in let f = r.front in let z : id ≡ 0 = sym k.actor ∙ first in
      let is : f.first ≡ v = one_at s.views 0 f.first v f.at (subst (λ (i : ℕ). get_elem? s.views i ≡ some v) z at) in
      let made : v.made ≡ length s.views = ap (λ (x : View E). x.made) (sym is) ∙ f.made in
      let many : length v.joined ≡ length f.first.joined = ap (λ (x : View E). length x.joined) (sym is) in
      let long : length vs ≡ length s.views = length-set s.views id w in
      let longer_by : length (vs ++ u ∷ []) ≡ length vs + 1 = length-append vs (u ∷ []) in
      let count = f.count in let same = live_stays s.views id v w at refl in let more = live_more vs u live in
      let here : get_elem? (vs ++ u ∷ []) id ≡ some w = at_longer vs (u ∷ []) id w (set_here s.views id w (at_within s.views id v at)) in
      let there = λ (j : ℕ) (x : View E) (e : get_elem? s.views j ≡ some x) (ne : j ≢ id). at_longer vs (u ∷ []) j x (set_else s.views id j w ne ∙ e) in record {
        log = r.log;
        held = r.held;
        holder = r.holder;
        wide = r.wide;
        word = r.word;
        each = λ j d e lives. ⊎_elim
            (λ (t : get_elem? vs j ≡ some d). ⊎_elim
            (λ (q : (j ≡ id) × (w ≡ d)). subst (λ (x : ℕ × View E). Knows setting r.log r.held r.holder x.0 x.1) (λ i. (sym q.0 i, q.1 i))
            record { actor = k.actor; set = k.set; seen = k.seen; told = k.told; all = k.all; own = k.own; holds = k.holds })
            (λ (q : (j ≢ id) × (get_elem? s.views j ≡ some d)). r.each j d q.1 lives)
            (at_set s.views id j w d t))
            (λ (t : (j ≡ length vs) × (u ≡ d)). let end : j ≡ length s.views = t.0 ∙ long in let none_yet : entries_of j r.log ≡ [] = r.unmade j (omega arith) in
            subst (λ (x : View E). Knows setting r.log r.held r.holder j x) (t.1)
            record { actor = made ∙ sym end; set = k.set; seen = k.seen; told = begins_any v.seen; all = none_yet; own = entries_none j v.seen r.log k.seen none_yet; holds = λ h. absurd (true≢false (sym h)) })
            (at_end vs u d j e);
        front = record {
          first = w;
          at = subst (λ (i : ℕ). get_elem? (vs ++ u ∷ []) i ≡ some w) z here;
          live = live;
          made = omega arith;
          count = omega arith;
          joined = λ i d h. let j = subst (λ (x : View E). All (IsJoined s.views r.log x.seen) x.joined) is f.joined i d h in record {
            spent = (j.spent.0, there _ j.spent.0 j.spent.1 (λ e. live_apart s.views id _ v j.spent.0 at j.spent.1 live j.spent.2 (sym e)), j.spent.2);
            all = j.all;
            own = j.own;
          };
        };
        whole = let o = r.whole in dite (ℕ_discrete o.0 id)
            (λ e. let x : o.1 ≡ v = one_at s.views id o.1 v (subst (λ (i : ℕ). get_elem? s.views i ≡ some o.1) e o.2) at in (id, w, here, live, ap (λ (y : View E). y.seen) (sym x) ∙ o.4))
            (λ ne. (o.0, o.1, there o.0 o.1 o.2 ne, o.3, o.4));
        unmade = λ a far. r.unmade a (omega arith);
        held_by = λ h. let o = r.held_by h in dite (ℕ_discrete r.holder id)
            (λ e. let x : o.0 ≡ v = one_at s.views id o.0 v (subst (λ (i : ℕ). get_elem? s.views i ≡ some o.0) e o.1) at in
            (w, subst (λ (i : ℕ). get_elem? (vs ++ u ∷ []) i ≡ some w) (sym e) here, live, ap (λ (y : View E). y.holds) (sym x) ∙ o.3))
            (λ ne. (o.0, there r.holder o.0 o.1 ne, o.2, o.3));
        home = r.home;
      }

  -- the joined seats, with one more
  joined_more : (s : St) (r : Rule s) (id other : ℕ) (v w : View E) → get_elem? s.views id ≡ some v → get_elem? s.views other ≡ some w → v.live ≡ true → w.live ≡ true → other ≢ id → r.front.first ≡ v
      → All (IsJoined (set (set s.views id (has_joined v w)) other spent) r.log (longer v.seen w.seen)) (v.joined ++ (w.actor, w.mine) ∷ [])
  joined_more s r id other v w at there live lives apart is =
      let b : View E = has_joined v w in let vs : List (View E) = set s.views id b in
      let kv = r.each id v at live in let kw = r.each other w there lives in
      let both = both_begin v.seen w.seen (shorter_begins v.seen w.seen r.log kv.seen kw.seen) in
      let low = longer_begins v.seen w.seen r.log kv.seen kw.seen in
      let inside : other < length vs = omega (arith, at_within s.views other w there, length-set s.views id b) in
      let own : entries_of w.actor w.seen ≡ w.mine = subst (λ (a : ℕ). entries_of a w.seen ≡ w.mine) (sym kw.actor) kw.own in
      let all : entries_of w.actor r.log ≡ w.mine = subst (λ (a : ℕ). entries_of a r.log ≡ w.mine) (sym kw.actor) kw.all in
      All-push (IsJoined (set vs other spent) r.log b.seen) v.joined (w.actor, w.mine)
      (λ i d h. let j = subst (λ (x : View E). All (IsJoined s.views r.log x.seen) x.joined) is r.front.joined i d h in
      let ne = λ (n : ℕ) (x : View E) (e : get_elem? s.views n ≡ some x) (l : x.live ≡ true) (z : _ ≡ n). live_apart s.views n _ x j.spent.0 e j.spent.1 l j.spent.2 (sym z) in record {
        spent = (j.spent.0, set_else vs other _ spent (ne other w there lives) ∙ set_else s.views id _ b (ne id v at live) ∙ j.spent.1, j.spent.2);
        all = j.all;
        own = entries_between _ v.seen b.seen r.log _ both.0 low j.own j.all;
      })
      record {
        spent = (spent, subst (λ (i : ℕ). get_elem? (set vs other spent) i ≡ some spent) (sym kw.actor) (set_here vs other spent inside), refl);
        all = all;
        own = entries_between w.actor w.seen b.seen r.log w.mine both.1 low own all;
      }

  pub joins : (id : ℕ) (v : View E) (other : ℕ) (w : View E) → v.live ≡ true → w.live ≡ true → v.actor ≡ 0 → v.holds ≡ false → w.holds ≡ false → Joins Rule id v other w (has_joined v w) spent
  joins id v other w live lives first idle idles s r at apart there' =
      let b : View E = has_joined v w in let vs : List (View E) = set s.views id b in let end : List (View E) = set vs other spent in
      let there : get_elem? s.views other ≡ some w = sym (set_else s.views id other b apart) ∙ there' in
      let kv = r.each id v at live in let kw = r.each other w there lives in let f = r.front in let z : id ≡ 0 = sym kv.actor ∙ first in
      let is : f.first ≡ v = one_at s.views 0 f.first v f.at (subst (λ (i : ℕ). get_elem? s.views i ≡ some v) z at) in
      let made : v.made ≡ length s.views = ap (λ (x : View E). x.made) (sym is) ∙ f.made in
      let many : length v.joined ≡ length f.first.joined = ap (λ (x : View E). length x.joined) (sym is) in
      let more : length b.joined ≡ length v.joined + 1 = length-append v.joined ((w.actor, w.mine) ∷ []) in
      let long : length vs ≡ length s.views = length-set s.views id b in let long' : length end ≡ length vs = length-set vs other spent in
      let count = f.count in let same = live_stays s.views id v b at refl in let less = live_less vs other w spent there' lives refl in
      let both = both_begin v.seen w.seen (shorter_begins v.seen w.seen r.log kv.seen kw.seen) in
      let low = longer_begins v.seen w.seen r.log kv.seen kw.seen in
      let here : get_elem? end id ≡ some b = set_else vs other id spent (λ e. apart (sym e)) ∙ set_here s.views id b (at_within s.views id v at) in
      let stays = λ (j : ℕ) (x : View E) (e : get_elem? s.views j ≡ some x) (n : j ≢ id) (m : j ≢ other). set_else vs other j spent m ∙ set_else s.views id j b n ∙ e in record {
        log = r.log;
        held = r.held;
        holder = r.holder;
        wide = r.wide;
        word = r.word;
        each = λ j d e on. ⊎_elim
            (λ (t : (j ≡ other) × (spent ≡ d)). absurd (true≢false (sym on ∙ ap (λ (x : View E). x.live) (sym t.1))))
            (λ (t : (j ≢ other) × (get_elem? vs j ≡ some d)). ⊎_elim
            (λ (q : (j ≡ id) × (b ≡ d)). subst (λ (x : ℕ × View E). Knows setting r.log r.held r.holder x.0 x.1) (λ i. (sym q.0 i, q.1 i)) record {
              actor = kv.actor;
              set = kv.set;
              seen = low;
              told = shorter_begins v.seen w.seen r.log kv.seen kw.seen;
              all = kv.all;
              own = entries_between id v.seen b.seen r.log v.mine both.0 low kv.own kv.all;
              holds = λ h. absurd (true≢false (sym h ∙ idle));
            })
            (λ (q : (j ≢ id) × (get_elem? s.views j ≡ some d)). r.each j d q.1 on)
            (at_set s.views id j b d t.1))
            (at_set vs other j spent d e);
        front = record {
          first = b;
          at = subst (λ (i : ℕ). get_elem? end i ≡ some b) z here;
          live = live;
          made = made ∙ sym (long' ∙ long);
          count = omega arith;
          joined = joined_more s r id other v w at there live lives apart is;
        };
        whole = let o = r.whole in dite (ℕ_discrete o.0 id)
            (λ e. let x : o.1 ≡ v = one_at s.views id o.1 v (subst (λ (i : ℕ). get_elem? s.views i ≡ some o.1) e o.2) at in
            let l : length v.seen ≡ length r.log = ap (λ (y : View E). length y.seen) (sym x) ∙ ap length o.4 in
            (id, b, here, live, longer_whole v.seen w.seen r.log kv.seen kw.seen (inl (omega arith))))
            (λ ne. dite (ℕ_discrete o.0 other)
            (λ e. let x : o.1 ≡ w = one_at s.views other o.1 w (subst (λ (i : ℕ). get_elem? s.views i ≡ some o.1) e o.2) there in
            let l : length w.seen ≡ length r.log = ap (λ (y : View E). length y.seen) (sym x) ∙ ap length o.4 in
            (id, b, here, live, longer_whole v.seen w.seen r.log kv.seen kw.seen (inr (omega arith))))
            (λ ne'. (o.0, o.1, stays o.0 o.1 o.2 ne ne', o.3, o.4)));
        unmade = λ a far. r.unmade a (omega arith);
        held_by = λ h. let o = r.held_by h in
            let off = λ (n : ℕ) (x : View E) (e : get_elem? s.views n ≡ some x) (not : x.holds ≡ false) (q : r.holder ≡ n).
            true≢false (sym o.3 ∙ ap (λ (y : View E). y.holds) (one_at s.views n o.0 x (subst (λ (i : ℕ). get_elem? s.views i ≡ some o.0) q o.1) e) ∙ not) in
            (o.0, stays r.holder o.0 o.1 (off id v at idle) (off other w there idles), o.2, o.3);
        home = r.home;
      }

  pub compares : (slots id : ℕ) (me : Me (Option T) (View E)) → me.0.live ≡ true → Allows Rule slots id me 0 (λ n. n) (Compares (step slots 0 0 0 none) me)
  compares slots id me live s r _ at _ = let k = r.each id me.0 at live in
      (me.0, keeps, tt, quiet stands setting_of setting s r id me.0 me.0.loaded me.0.tried at live, (refl, k.told, accounts stands setting_of setting s r id me.0 at live))
