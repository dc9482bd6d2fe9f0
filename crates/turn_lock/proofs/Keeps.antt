-- Each step of one seat keeps the rule.
use Rattle.std.proofs.Common.{◌≡◌, ◌≢◌, ◌⊎◌, inl, inr, ⊎_elim, ℕ, ◌+◌, ◌*◌, ◌%◌, ◌<◌, ◌≤◌, eqb, Bool, true, false, Option, Some, None, List, [], ◌∷◌, ◌++◌, length, get_or, set, ℤ, All, refl, ap, sym, subst, ◌∙◌, arith, length-set, get_or-set_same, length-append, eq-eqb, ne_eqb, true≢false}
use mathlib.Core.Logic.{dite}
use mathlib.Core.Option.{Option as Place, some, none}
use mathlib.Core.List.{IsPrefix}
use native.Mathlib.Decide.{ℕ_discrete}
use lib.ListN.{get_elem?}
use prog.Atomic.{either}
use Rattle.std.proofs.lemmas.Bool.{cases_Bool}
use Rattle.atomic_table.specs.Table.{State, Me, step, keeps, takes, gives, Allows}
use Rattle.atomic_table.specs.Seated.{TableId}
use Rattle.atomic_table.proofs.Lists.{at_set, set_here, set_else}
use Rattle.turn_lock.specs.declared.rule.View.{View}
use Rattle.turn_lock.specs.Histories.{entries_of}
use Rattle.turn_lock.specs.Words.{last_give, IsFree, IsWord, Counts}
use Rattle.turn_lock.specs.Seats.{Accounts}
use Rattle.turn_lock.specs.OneHistory.{Knows, IsJoined, Front, OneHistory}
use Rattle.turn_lock.specs.Steps.{shown, has_loaded, has_missed, has_taken, has_given, Loads, Tries, Gives}
use Rattle.turn_lock.proofs.Beginnings.{begins_self, begins_any, begins_more, begins_on, begins_length}
use Rattle.turn_lock.proofs.Entries.{entries_here, entries_there, entries_between, entries_none}
use Rattle.turn_lock.proofs.Views.{one_at, at_within, live_apart, live_stays}

module _ {E : Type 0} where
  -- a joined seat stays so, where a live one steps and enters nothing but its own
  joined_stays : (views : List (View E)) (id : ℕ) (v w : View E) (log log' seen seen' : List (ℕ × E)) (p : ℕ × List (ℕ × E)) → get_elem? views id ≡ some v → v.live ≡ true
      → IsPrefix seen seen' → IsPrefix seen' log' → ((a : ℕ) → a ≢ id → entries_of a log' ≡ entries_of a log)
      → IsJoined views log seen p → IsJoined (set views id w) log' seen' p
  joined_stays views id v w log log' seen seen' p at live low high same j =
      let apart : p.0 ≢ id = λ e. live_apart views id p.0 v j.spent.0 at j.spent.1 live j.spent.2 (sym e) in
      let all : entries_of p.0 log' ≡ p.1 = same p.0 apart ∙ j.all in record {
        spent = (j.spent.0, set_else views id p.0 w apart ∙ j.spent.1, j.spent.2);
        all = all;
        own = entries_between p.0 seen seen' log' p.1 low high j.own all;
      }

  front_stays : (views : List (View E)) (id : ℕ) (v w : View E) (log log' : List (ℕ × E)) (f : Front log views) → get_elem? views id ≡ some v → v.live ≡ true → w.live ≡ true → w.made ≡ v.made → w.joined ≡ v.joined
      → IsPrefix v.seen w.seen → IsPrefix w.seen log' → IsPrefix f.first.seen log' → ((a : ℕ) → a ≢ id → entries_of a log' ≡ entries_of a log) → Front log' (set views id w)
  front_stays views id v w log log' f at live live' made joined low high high' same =
      let count = live_stays views id v w at (live' ∙ sym live) in let long = length-set views id w in let count' = f.count in let made' = f.made in dite (ℕ_discrete id 0)
      (λ z. let is : f.first ≡ v = one_at views 0 f.first v f.at (subst (λ (i : ℕ). get_elem? views i ≡ some v) z at) in
      let n : v.made ≡ length views = ap (λ (x : View E). x.made) (sym is) ∙ made' in
      let many : length w.joined ≡ length f.first.joined = ap length (joined ∙ ap (λ (x : View E). x.joined) (sym is)) in record {
        first = w;
        at = subst (λ (i : ℕ). get_elem? (set views id w) i ≡ some w) z (set_here views id w (at_within views id v at));
        live = live';
        made = made ∙ n ∙ sym long;
        count = omega arith;
        joined = subst (All (IsJoined (set views id w) log' w.seen)) (ap (λ (x : View E). x.joined) is ∙ sym joined)
            (λ k d h. joined_stays views id v w log log' f.first.seen w.seen _ at live (subst (λ (x : View E). IsPrefix x.seen w.seen) (sym is) low) high same (f.joined k d h));
      })
      (λ nz. record {
        first = f.first;
        at = set_else views id 0 w (λ e. nz (sym e)) ∙ f.at;
        live = f.live;
        made = made' ∙ sym long;
        count = omega arith;
        joined = λ k d h. joined_stays views id v w log log' f.first.seen f.first.seen _ at live (begins_self f.first.seen) high' same (f.joined k d h);
      })

module _ {T E : Type 0} (stands : T → List (ℕ × E) → Type 0) (setting_of : T → List ℤ) (setting : List ℤ) where
  abbrev St : Type 0
  St = State (Option T) (View E)

  abbrev M : Type 0
  M = Me (Option T) (View E)

  abbrev Rule : St → Type 0
  Rule = OneHistory stands setting_of setting

  -- what a live seat has seen accounts for its entries
  pub accounts : (s : St) (r : Rule s) (id : ℕ) (v : View E) → get_elem? s.views id ≡ some v → v.live ≡ true → (turn : TableId) → Accounts (shown turn v)
  accounts s r id v at live turn =
      let k = r.each id v at live in
      let front : v.actor ≡ 0 → r.front.first ≡ v = λ z. one_at s.views 0 r.front.first v r.front.at (subst (λ (i : ℕ). get_elem? s.views i ≡ some v) (sym k.actor ∙ z) at) in record {
        own = subst (λ (a : ℕ). entries_of a v.seen ≡ v.mine) (sym k.actor) k.own;
        unmade = λ z a more. let made : v.made ≡ length s.views = ap (λ (x : View E). x.made) (sym (front z)) ∙ r.front.made in entries_none a v.seen r.log k.seen (r.unmade a (omega arith));
        joined = λ z. subst (λ (x : View E). All (λ (p : ℕ × List (ℕ × E)). entries_of p.0 x.seen ≡ p.1) x.joined) (front z) (λ i d h. let j = r.front.joined i d h in j.own);
      }

  -- a step of the live seat `id`, after which its view is w, the word n and the history log
  moved : (s : St) (r : Rule s) (id : ℕ) (v w : View E) (n : ℕ) (hs : List (Place (Option T))) (log : List (ℕ × E)) (held : Bool) (holder : ℕ)
      → get_elem? s.views id ≡ some v → v.live ≡ true → w.live ≡ true → w.made ≡ v.made → w.joined ≡ v.joined
      → IsPrefix v.seen w.seen → IsPrefix r.log log → ((a : ℕ) → a ≢ id → entries_of a log ≡ entries_of a r.log) → Knows setting log held holder id w
      → ((j : ℕ) → j ≢ id → r.held ≡ true → r.holder ≡ j → (held ≡ true) × (holder ≡ j) × (r.log ≡ log))
      → (w.seen ≡ log) ⊎ ((w.seen ≡ v.seen) × (r.log ≡ log))
      → IsWord held (length log) n
      → (held ≡ true → (u : View E) × (get_elem? (set s.views id w) holder ≡ some u) × (u.live ≡ true) × (u.holds ≡ true))
      → (held ≡ false → (value : T) × (get_elem? hs 0 ≡ some (some (Some value))) × stands value log × (setting_of value ≡ setting))
      → Rule record { words = set s.words 0 n; homes = hs; views = set s.views id w }
  moved s r id v w n hs log held holder at live live' made joined low grows same mine others whole word held_by home =
      let inside = at_within s.views id v at in let wide = r.wide in let f = r.front in record {
        log = log;
        held = held;
        holder = holder;
        wide = length-set s.words 0 n ∙ wide;
        word = subst (IsWord held (length log)) (sym (get_or-set_same s.words 0 n 0 (omega arith))) word;
        each = λ j d e lives. ⊎_elim
            (λ (t : (j ≡ id) × (w ≡ d)). subst (λ (x : ℕ × View E). Knows setting log held holder x.0 x.1) (λ i. (sym t.0 i, t.1 i)) mine)
            (λ (t : (j ≢ id) × (get_elem? s.views j ≡ some d)). let k = r.each j d t.1 lives in record {
              actor = k.actor;
              set = k.set;
              seen = begins_on d.seen r.log log k.seen grows;
              told = k.told;
              all = same j t.0 ∙ k.all;
              own = k.own;
              holds = λ h. let o = k.holds h in let p = others j t.0 o.0 o.1 in (p.0, p.1, o.2 ∙ p.2);
            })
            (at_set s.views id j w d e);
        front = front_stays s.views id v w r.log log f at live live' made joined low mine.seen (begins_on f.first.seen r.log log (r.each 0 f.first f.at f.live).seen grows) same;
        whole = ⊎_elim
            (λ (e : w.seen ≡ log). (id, w, set_here s.views id w inside, live', e))
            (λ (e : (w.seen ≡ v.seen) × (r.log ≡ log)). let o = r.whole in dite (ℕ_discrete o.0 id)
            (λ is. let u : o.1 ≡ v = one_at s.views id o.1 v (subst (λ (i : ℕ). get_elem? s.views i ≡ some o.1) is o.2) at in
            (id, w, set_here s.views id w inside, live', e.0 ∙ ap (λ (x : View E). x.seen) (sym u) ∙ o.4 ∙ e.1))
            (λ not. (o.0, o.1, set_else s.views id o.0 w not ∙ o.2, o.3, o.4 ∙ e.1)))
            whole;
        unmade = λ a more. let long = length-set s.views id w in same a (λ e. omega arith) ∙ r.unmade a (omega arith);
        held_by = held_by;
        home = home;
      }

  -- a step that enters nothing, after which the seat knows what it knew
  pub quiet : (s : St) (r : Rule s) (id : ℕ) (v : View E) (loaded : Option ℕ) (tried : List (ℕ × ℕ)) → get_elem? s.views id ≡ some v → v.live ≡ true
      → Rule record { words = set s.words 0 (get_or s.words 0 0); homes = s.homes; views = set s.views id (record v { loaded = loaded; tried = tried }) }
  quiet s r id v loaded tried at live = let k = r.each id v at live in let w : View E = record v { loaded = loaded; tried = tried } in
      moved s r id v w (get_or s.words 0 0) s.homes r.log r.held r.holder at live live refl refl (begins_self v.seen) (begins_self r.log) (λ a _. refl)
      record { actor = k.actor; set = k.set; seen = k.seen; told = k.told; all = k.all; own = k.own; holds = k.holds }
      (λ j _ h e. (h, e, refl)) (inr (refl, refl)) r.word
      (λ h. let o = r.held_by h in dite (ℕ_discrete r.holder id)
      (λ is. let u : o.0 ≡ v = one_at s.views id o.0 v (subst (λ (i : ℕ). get_elem? s.views i ≡ some o.0) is o.1) at in
      (w, subst (λ (i : ℕ). get_elem? (set s.views id w) i ≡ some w) (sym is) (set_here s.views id w (at_within s.views id v at)), live, ap (λ (x : View E). x.holds) (sym u) ∙ o.3))
      (λ not. (o.0, set_else s.views id r.holder w not ∙ o.1, o.2, o.3)))
      r.home

  pub loads : (slots id : ℕ) (me : M) → me.0.live ≡ true → Allows Rule slots id me 0 (λ n. n) (Loads (step slots 0 0 0 none) me)
  loads slots id me live s r _ at _ = let x : ℕ = get_or s.words 0 0 in
      (has_loaded me.0 x, keeps, tt, quiet s r id me.0 (Some x) me.0.tried at live, refl)

  -- an even word is free
  even_free : (held : Bool) (count word : ℕ) → IsWord held count word → word % 2 ≡ 0 → (held ≡ false) × (word ≡ 2 * count) × (count < last_give)
  even_free true count word is even = let t = is.taken refl in absurd (omega arith)
  even_free false count word is even = let most = is.most in let free = is.free refl in dite (ℕ_discrete count last_give)
      (λ e. let w = free.1 e in absurd (omega arith))
      (λ ne. let less : count < last_give = omega arith in (refl, free.0 less, less))

  -- the word counts each give that a seat has seen
  word_counts : (held : Bool) (count word seen : ℕ) → IsWord held count word → seen ≤ count → Counts seen word
  word_counts true count word seen is le = let t = is.taken refl in (omega arith, λ all. absurd (omega arith))
  word_counts false count word seen is le = let free = is.free refl in let most = is.most in dite (ℕ_discrete count last_give)
      (λ e. let w = free.1 e in (omega arith, λ _. w))
      (λ ne. let less : count < last_give = omega arith in let w = free.0 less in (omega arith, λ all. absurd (omega arith)))

  takes_it : (s : St) (r : Rule s) (slots id : ℕ) (me : M) (old new : ℕ) → me.0.live ≡ true → old % 2 ≡ 0 → new ≡ old + 1 → get_elem? s.views id ≡ some me.0 → get_or s.words 0 0 ≡ old
      → (home : (value : T) × (get_elem? s.homes 0 ≡ some (some (Some value))) × stands value r.log × (setting_of value ≡ setting))
      → Rule record { words = set s.words 0 new; homes = set s.homes 0 none; views = set s.views id (has_taken me.0 r.log (get_or s.words 0 0)) }
  takes_it s r slots id me old new live even up at hit home = let k = r.each id me.0 at live in let x : ℕ = get_or s.words 0 0 in let w : View E = has_taken me.0 r.log x in
      let f = even_free r.held (length r.log) x r.word (ap (λ (n : ℕ). n % 2) hit ∙ even) in
      moved s r id me.0 w new (set s.homes 0 none) r.log true id at live live refl refl k.seen (begins_self r.log) (λ a _. refl)
      record { actor = k.actor; set = k.set; seen = begins_self r.log; told = begins_any r.log; all = k.all; own = k.all; holds = λ _. (refl, refl, refl) }
      (λ j _ h _. absurd (true≢false (sym h ∙ f.0))) (inl refl)
      record { most = omega arith; taken = λ _. (omega arith, f.2); free = λ h. absurd (true≢false h) }
      (λ _. (w, set_here s.views id w (at_within s.views id me.0 at), live, refl))
      (λ h. absurd (true≢false h))

  pub tries : (slots id : ℕ) (me : M) (old new : ℕ) → me.0.live ≡ true → old % 2 ≡ 0 → new ≡ old + 1
      → Allows Rule slots id me 0 (λ n. either (eqb n old) new n) (Tries stands setting_of (step slots 0 old new none) me)
  tries slots id me old new live even up s r _ at _ = let x : ℕ = get_or s.words 0 0 in let k = r.each id me.0 at live in dite (ℕ_discrete x old)
      (λ hit. let f = even_free r.held (length r.log) x r.word (ap (λ (n : ℕ). n % 2) hit ∙ even) in let h = r.home f.0 in let w : View E = has_taken me.0 r.log x in
      let kept = takes_it s r slots id me old new live even up at hit h in (
        w,
        takes 0 (Some h.0),
        h.1,
        subst (λ b. Rule record { words = set s.words 0 (either b new x); homes = set s.homes 0 none; views = set s.views id w }) (sym (eq-eqb x old hit)) kept,
        (
          λ _. record {
            history = r.log;
            value = h.0;
            view = refl;
            idle = ⊎_elim (λ (holds : me.0.holds ≡ true). absurd (true≢false (sym (k.holds holds).0 ∙ f.0))) (λ not. not) (cases_Bool me.0.holds);
            slot = refl;
            begins = k.seen;
            count = (f.1, f.2);
            stood = h.2;
            set = h.3 ∙ sym k.set;
            accounts = accounts record { words = set s.words 0 new; homes = set s.homes 0 none; views = set s.views id w } kept id w (set_here s.views id w (at_within s.views id me.0 at)) live;
          },
          λ miss. absurd (miss hit),
        ),
      ))
      (λ miss. (
        has_missed me.0 x,
        keeps,
        tt,
        subst (λ b. Rule record { words = set s.words 0 (either b new x); homes = s.homes; views = set s.views id (has_missed me.0 x) }) (sym (ne_eqb x old miss)) (quiet s r id me.0 None _ at live),
        (λ hit. absurd (miss hit), λ _. (refl, word_counts r.held (length r.log) x (length me.0.seen) r.word (begins_length me.0.seen r.log k.seen))),
      ))

  gives_it : (s : St) (r : Rule s) (slots id : ℕ) (v : View E) (e : E) (value : T) (next : ℕ) → v.live ≡ true → v.holds ≡ true → stands value (v.seen ++ (v.actor, e) ∷ []) → setting_of value ≡ v.setting
      → IsFree (length v.seen + 1) next → 0 < length s.homes → get_elem? s.views id ≡ some v
      → Rule record { words = set s.words 0 next; homes = set s.homes 0 (some (Some value)); views = set s.views id (has_given v e) }
  gives_it s r slots id v e value next live holds stood same up wide at = let k = r.each id v at live in let o = k.holds holds in let w : View E = has_given v e in let log : List (ℕ × E) = w.seen in
      let long : length log ≡ length v.seen + 1 = length-append v.seen ((v.actor, e) ∷ []) in
      let had = r.word.taken o.0 in let seen : length v.seen ≡ length r.log = ap length o.2 in
      moved s r id v w next (set s.homes 0 (some (Some value))) log false 0 at live live refl refl (begins_more v.seen _)
      (subst (λ (l : List (ℕ × E)). IsPrefix l log) o.2 (begins_more v.seen _))
      (λ a ne. entries_there a v.actor v.seen e (λ is. ne (sym is ∙ k.actor)) ∙ ap (entries_of a) o.2)
      record {
        actor = k.actor;
        set = k.set;
        seen = begins_self log;
        told = begins_any log;
        all = subst (λ (a : ℕ). entries_of a log ≡ w.mine) k.actor (entries_here v.actor v.seen e ∙ ap (λ (l : List (ℕ × E)). l ++ (v.actor, e) ∷ []) (subst (λ (a : ℕ). entries_of a v.seen ≡ v.mine) (sym k.actor) k.own));
        own = subst (λ (a : ℕ). entries_of a log ≡ w.mine) k.actor (entries_here v.actor v.seen e ∙ ap (λ (l : List (ℕ × E)). l ++ (v.actor, e) ∷ []) (subst (λ (a : ℕ). entries_of a v.seen ≡ v.mine) (sym k.actor) k.own));
        holds = λ h. absurd (true≢false (sym h));
      }
      (λ j ne _ is. absurd (ne (sym is ∙ o.1))) (inl refl)
      record { most = omega arith; taken = λ h. absurd (true≢false (sym h)); free = λ _. subst (λ (n : ℕ). IsFree n next) (sym long) up }
      (λ h. absurd (true≢false (sym h)))
      (λ _. (value, set_here s.homes 0 (some (Some value)) wide, stood, same ∙ k.set))

  pub gives_back : (slots id : ℕ) (me : M) (v : View E) (said : Option E) (e : E) (value : T) (next : ℕ) → me ≡ (v, (0, Some value) ∷ []) → said ≡ Some e → 0 < slots → v.live ≡ true → v.holds ≡ true
      → stands value (v.seen ++ (v.actor, e) ∷ []) → setting_of value ≡ v.setting → IsFree (length v.seen + 1) next
      → Allows Rule slots id me 0 (λ _. next) (Gives said (step slots 0 next 0 none) me)
  gives_back slots id me v said e value next is told some_slot live holds stood same up = subst (λ (m : M). Allows Rule slots id m 0 (λ _. next) (Gives said (step slots 0 next 0 none) m)) (sym is)
      (λ s r wide at _. let w : View E = has_given v e in let kept = gives_it s r slots id v e value next live holds stood same up (omega arith) at in (
        w,
        gives,
        tt,
        kept,
        λ entry t. let one : e ≡ entry = cc (told, t) in
            (ap (λ (x : E). (has_given v x, [])) one, accounts record { words = set s.words 0 next; homes = set s.homes 0 (some (Some value)); views = set s.views id w } kept id w (set_here s.views id w (at_within s.views id v at)) live),
      ))
