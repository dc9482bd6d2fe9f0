-- The rule when a turn is made, and what it leaves when the turn is closed.
use Rattle.std.proofs.Common.{◌≡◌, ⊎_elim, ℕ, zero, suc, ◌+◌, true, false, Option, Some, List, [], ◌∷◌, length, ℤ, refl, ap, sym, subst, ◌∙◌, arith, true≢false}
use mathlib.Core.Option.{some, some-injective, some-ne-none}
use lib.ListN.{get_elem?}
use Rattle.std.proofs.lemmas.Bool.{cases_Bool}
use Rattle.atomic_table.specs.Table.{State, Me, opening, Final, Seen}
use Rattle.atomic_table.specs.Seated.{TableId}
use Rattle.turn_lock.specs.declared.rule.View.{View}
use Rattle.turn_lock.specs.OneHistory.{Knows, live_count, OneHistory}
use Rattle.turn_lock.specs.Seats.{SeatView, AllJoined}
use Rattle.turn_lock.specs.Steps.{first_view, shown, IsSeat}
use Rattle.turn_lock.proofs.Beginnings.{begins_self}
use Rattle.turn_lock.proofs.Views.{one_at, only_first}

module _ {T E : Type 0} (stands : T → List (ℕ × E) → Type 0) (setting_of : T → List ℤ) (setting : List ℤ) where
  abbrev Rule : State (Option T) (View E) → Type 0
  Rule = OneHistory stands setting_of setting

  first_knows : (j : ℕ) (v : View E) → get_elem? (first_view setting ∷ []) j ≡ some v → Knows setting [] false 0 j v
  first_knows zero v e = subst (Knows setting [] false 0 0) (some-injective (first_view setting) v e)
      record { actor = refl; set = refl; seen = begins_self []; told = begins_self []; all = refl; own = refl; holds = λ h. absurd (true≢false (sym h)) }
  first_knows (suc j) v e = absurd (some-ne-none v (sym e))

  pub opens : (value : T) (slots : List (Option T)) → slots ≡ Some value ∷ [] → stands value [] → setting_of value ≡ setting → Rule (opening (0 ∷ []) slots (first_view setting))
  opens value slots is stood same = subst (λ (xs : List (Option T)). Rule (opening (0 ∷ []) xs (first_view setting))) (sym is) record {
    log = [];
    held = false;
    holder = 0;
    wide = refl;
    word = record { most = omega arith; taken = λ h. absurd (true≢false (sym h)); free = λ _. ((λ _. refl), λ e. absurd (omega arith)) };
    each = λ j v e _. first_knows j v e;
    front = record { first = first_view setting; at = refl; live = refl; made = refl; count = refl; joined = λ k d h. absurd (omega arith) };
    whole = (0, first_view setting, refl, refl, refl);
    unmade = λ a _. refl;
    held_by = λ h. absurd (true≢false (sym h));
    home = λ _. (value, refl, stood, same);
  }

  -- where seat 0 alone is live and holds no turn, it has seen the whole history, and the value at home stands for it
  last_seen : (s : State (Option T) (View E)) (r : Rule s) (id : ℕ) (v : View E) → get_elem? s.views id ≡ some v → v.live ≡ true → v.actor ≡ 0 → v.made ≡ length v.joined + 1 → v.holds ≡ false
      → (r.held ≡ false) × (v.seen ≡ r.log) × (v.setting ≡ setting)
  last_seen s r id v at live first all idle =
      let k = r.each id v at live in let f = r.front in
      let here : get_elem? s.views 0 ≡ some v = subst (λ (i : ℕ). get_elem? s.views i ≡ some v) (sym k.actor ∙ first) at in
      let same : f.first ≡ v = one_at s.views 0 f.first v f.at here in
      let made : v.made ≡ length s.views = ap (λ (x : View E). x.made) (sym same) ∙ f.made in
      let many : length v.joined ≡ length f.first.joined = ap (λ (x : View E). length x.joined) (sym same) in
      let count = f.count in
      let one : live_count s.views ≡ 1 = omega arith in
      let alone = λ (j : ℕ) (u : View E) (e : get_elem? s.views j ≡ some u) (h : u.live ≡ true).
      one_at s.views 0 u v (subst (λ (i : ℕ). get_elem? s.views i ≡ some u) (only_first s.views v j u here live one e h) e) here in
      let o = r.whole in (
        ⊎_elim (λ (held : r.held ≡ true). let b = r.held_by held in absurd (true≢false (sym b.3 ∙ ap (λ (x : View E). x.holds) (alone r.holder b.0 b.1 b.2) ∙ idle))) (λ not. not) (cases_Bool r.held),
        ap (λ (x : View E). x.seen) (sym (alone o.0 o.1 o.2 o.3)) ∙ o.4,
        k.set,
      )

  -- what lies in the slot of a closed turn
  pub closes : (turn : TableId) (id word : ℕ) (me : Me (Option T) (View E)) (view : SeatView E) (words : List ℕ) (slots : List (Option T)) (found : Option T) → IsSeat turn me word → shown turn me.0 ≡ view
      → view.actor ≡ 0 → view.holds ≡ false → AllJoined view → Final (Seen Rule id me.0) words slots → get_elem? slots 0 ≡ some found
      → (value : T) × (found ≡ Some value) × stands value view.seen × (setting_of value ≡ view.setting)
  closes turn id word me view words slots found seat is first idle all end taken =
      let v : View E = me.0 in let s = end.0 in let r = end.1.0 in
      let many : view.made ≡ v.made = ap (λ (x : SeatView E). x.made) (sym is) in
      let gone : length view.joined ≡ length v.joined = ap (λ (x : SeatView E). length x.joined) (sym is) in
      let l = last_seen s r id v end.1.1 seat.live (ap (λ (x : SeatView E). x.actor) is ∙ first) (omega arith) (ap (λ (x : SeatView E). x.holds) is ∙ idle) in
      let h = r.home l.0 in (
        h.0,
        some-injective found (Some h.0) (sym taken ∙ end.4 0 (Some h.0) h.1),
        subst (stands h.0) (sym l.1 ∙ ap (λ (x : SeatView E). x.seen) is) h.2,
        h.3 ∙ sym l.2 ∙ ap (λ (x : SeatView E). x.setting) is,
      )
