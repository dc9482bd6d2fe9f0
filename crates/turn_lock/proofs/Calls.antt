-- What a call leaves of its seat, from what its steps told.
use Rattle.std.proofs.Common.{◌≡◌, ℕ, false, Option, None, List, [], ◌∷◌, ◌++◌, length, ℤ, All, ap, sym, subst, ◌∙◌, arith, length-append, true≢false}
use Rattle.std.proofs.Math.Seq.{get_or-append_seam}
use Rattle.atomic_table.specs.Table.{Me, rest}
use Rattle.atomic_table.specs.Seated.{TableId}
use Rattle.turn_lock.specs.declared.rule.View.{View}
use Rattle.turn_lock.specs.Histories.{entries_of}
use Rattle.turn_lock.specs.Seats.{SeatView, Accounts}
use Rattle.turn_lock.specs.Steps.{shown, has_loaded, has_taken, has_given, has_joined, HasTaken, IsSeat}

abbrev Mine : Type 0 → Type 0 → Type 0
Mine T E = Me (Option T) (View E)

-- of the joined seats the last has just what it gave
pub last_joined : {E : Type 0} (seat : SeatView E) (before : List (ℕ × List (ℕ × E))) (actor : ℕ) (mine : List (ℕ × E)) → Accounts seat → seat.actor ≡ 0 → seat.joined ≡ before ++ (actor, mine) ∷ [] → entries_of actor seat.seen ≡ mine
last_joined {E} seat before actor mine accounts first is =
    let all = subst (All (λ (p : ℕ × List (ℕ × E)). entries_of p.0 seat.seen ≡ p.1)) is (accounts.joined first) in
    subst (λ (p : ℕ × List (ℕ × E)). entries_of p.0 seat.seen ≡ p.1) (get_or-append_seam before (actor, mine) [] (actor, mine))
    (all (length before) (actor, mine) (omega (arith, length-append before ((actor, mine) ∷ []))))

module _ {T E : Type 0} where
  -- a take: the load, the exchange of the word, and the slot's
  pub seat_taken : (stands : T → List (ℕ × E) → Type 0) (setting_of : T → List ℤ) (turn turn' : TableId) (m0 m1 m2 m3 : Mine T E) (before loaded found : ℕ)
      → IsSeat {T = T} {E = E} turn m0 before → m1 ≡ (has_loaded m0.0 loaded, m0.1) → HasTaken stands setting_of m1 found m2 → m3 ≡ (m2.0, (0, None) ∷ rest m2.1) → IsSeat turn' m3 found
  seat_taken stands setting_of turn turn' m0 m1 m2 m3 before loaded found seat e1 t e3 =
      let whole : m3.0 ≡ has_taken (has_loaded m0.0 loaded) t.history found = ap (λ (m : Mine T E). m.0) e3 ∙ t.view ∙ ap (λ (m : Mine T E). has_taken m.0 t.history found) e1 in
      let idle : m0.0.holds ≡ false = sym (ap (λ (m : Mine T E). m.0.holds) e1) ∙ t.idle in
      let seen : m3.0.seen ≡ t.history = ap (λ (v : View E). v.seen) whole in let count = t.count in let long : length m3.0.seen ≡ length t.history = ap length seen in record {
        live = ap (λ (v : View E). v.live) whole ∙ seat.live;
        unloaded = ap (λ (v : View E). v.loaded) whole;
        accounts = subst (λ (v : View E). Accounts (shown turn' v)) (sym (ap (λ (m : Mine T E). m.0) e3)) (t.accounts turn');
        idle = λ h. absurd (true≢false (sym (ap (λ (v : View E). v.holds) whole) ∙ h));
        holding = λ _. (ap (λ (m : Mine T E). m.1) e3 ∙ ap (λ (l : List (ℕ × Option T)). (0, None) ∷ rest l) t.slot ∙ ap (λ (l : List (ℕ × Option T)). (0, None) ∷ l) (ap (λ (m : Mine T E). m.1) e1 ∙ seat.idle idle), omega arith, omega arith);
      }

  -- a give: the slot's exchange, and the swap of the word
  pub seat_given : (turn turn' : TableId) (m0 m1 m2 : Mine T E) (word word' : ℕ) (e : E) → IsSeat turn m0 word → m1.0 ≡ m0.0 → m2 ≡ (has_given m1.0 e, []) → Accounts (shown turn' m2.0) → IsSeat turn' m2 word'
  seat_given turn turn' m0 m1 m2 word word' e seat e1 e2 accounts =
      let whole : m2.0 ≡ has_given m0.0 e = ap (λ (m : Mine T E). m.0) e2 ∙ ap (λ (v : View E). has_given v e) e1 in record {
        live = ap (λ (v : View E). v.live) whole ∙ seat.live;
        unloaded = ap (λ (v : View E). v.loaded) whole ∙ seat.unloaded;
        accounts = accounts;
        idle = λ _. ap (λ (m : Mine T E). m.1) e2;
        holding = λ h. absurd (true≢false (sym h ∙ ap (λ (v : View E). v.holds) whole));
      }

  -- a join: the views made one, and the load that compares them
  pub seat_joined : (turn turn' : TableId) (m0 m1 m2 : Mine T E) (word : ℕ) (w : View E) → IsSeat {T = T} {E = E} turn m0 word → m0.0.holds ≡ false → m1 ≡ (has_joined m0.0 w, m0.1) → m2 ≡ m1 → Accounts (shown turn' m1.0) → IsSeat turn' m2 word
  seat_joined turn turn' m0 m1 m2 word w seat idle e1 e2 accounts =
      let e : m2 ≡ (has_joined m0.0 w, m0.1) = e2 ∙ e1 in record {
        live = ap (λ (m : Mine T E). m.0.live) e ∙ seat.live;
        unloaded = ap (λ (m : Mine T E). m.0.loaded) e ∙ seat.unloaded;
        accounts = subst (λ (m : Mine T E). Accounts (shown turn' m.0)) (sym e2) accounts;
        idle = λ _. ap (λ (m : Mine T E). m.1) e ∙ seat.idle idle;
        holding = λ h. absurd (true≢false (sym h ∙ ap (λ (m : Mine T E). m.0.holds) e ∙ idle));
      }
