-- Lists of views: one is read at a place, and how many are live.
use Rattle.std.proofs.Common.{◌≡◌, ◌≢◌, ℕ, zero, suc, ◌+◌, ◌<◌, Bool, true, false, cond, List, [], ◌∷◌, ◌++◌, length, set, refl, ap, sym, ◌∙◌, arith, true≢false}
use mathlib.Core.Option.{some, some-injective, some-ne-none}
use lib.ListN.{get_elem?}
use Rattle.turn_lock.specs.declared.rule.View.{View}
use Rattle.turn_lock.specs.OneHistory.{live_count}

pub one_at : {A : Type 0} (l : List A) (i : ℕ) (a b : A) → get_elem? l i ≡ some a → get_elem? l i ≡ some b → a ≡ b
one_at l i a b e f = some-injective a b (sym e ∙ f)

pub at_within : {A : Type 0} (l : List A) (i : ℕ) (a : A) → get_elem? l i ≡ some a → i < length l
at_within [] i a e = absurd (some-ne-none a (sym e))
at_within (x ∷ xs) zero a e = omega arith
at_within (x ∷ xs) (suc i) a e = omega (arith, at_within xs i a e)

one_more : (b : Bool) (m n : ℕ) → n + 1 ≡ m → cond b (n + 1) n + 1 ≡ cond b (m + 1) m
one_more true m n e = omega arith
one_more false m n e = e

at_least_one : (b : Bool) (n : ℕ) → 0 < n → 0 < cond b (n + 1) n
at_least_one true n h = omega arith
at_least_one false n h = h

module _ {E : Type 0} where
  -- a live view is not a spent one
  pub live_apart : (l : List (View E)) (i j : ℕ) (v w : View E) → get_elem? l i ≡ some v → get_elem? l j ≡ some w → v.live ≡ true → w.live ≡ false → i ≢ j
  live_apart l i j v w e f live dead same = true≢false (sym live ∙ ap (λ (x : View E). x.live) (one_at l j v w (ap (λ k. get_elem? l k) (sym same) ∙ e) f) ∙ dead)

  pub live_stays : (l : List (View E)) (i : ℕ) (v w : View E) → get_elem? l i ≡ some v → w.live ≡ v.live → live_count (set l i w) ≡ live_count l
  live_stays [] i v w e same = absurd (some-ne-none v (sym e))
  live_stays (x ∷ xs) zero v w e same = ap (λ (b : Bool). cond b (live_count xs + 1) (live_count xs)) (same ∙ ap (λ (y : View E). y.live) (sym (some-injective x v e)))
  live_stays (x ∷ xs) (suc i) v w e same = ap (λ (n : ℕ). cond x.live (n + 1) n) (live_stays xs i v w e same)

  pub live_less : (l : List (View E)) (i : ℕ) (v w : View E) → get_elem? l i ≡ some v → v.live ≡ true → w.live ≡ false → live_count (set l i w) + 1 ≡ live_count l
  live_less [] i v w e was is = absurd (some-ne-none v (sym e))
  live_less (x ∷ xs) zero v w e was is =
      ap (λ (b : Bool). cond b (live_count xs + 1) (live_count xs) + 1) is ∙ ap (λ (b : Bool). cond b (live_count xs + 1) (live_count xs)) (sym (ap (λ (y : View E). y.live) (some-injective x v e) ∙ was))
  live_less (x ∷ xs) (suc i) v w e was is = one_more x.live (live_count xs) (live_count (set xs i w)) (live_less xs i v w e was is)

  pub live_more : (l : List (View E)) (w : View E) → w.live ≡ true → live_count (l ++ w ∷ []) ≡ live_count l + 1
  live_more [] w is = ap (λ (b : Bool). cond b (0 + 1) 0) is
  live_more (x ∷ xs) w is = sym (one_more x.live (live_count (xs ++ w ∷ [])) (live_count xs) (sym (live_more xs w is)))

  some_live : (l : List (View E)) (j : ℕ) (v : View E) → get_elem? l j ≡ some v → v.live ≡ true → 0 < live_count l
  some_live [] j v e is = absurd (some-ne-none v (sym e))
  some_live (x ∷ xs) zero v e is = let up : live_count (x ∷ xs) ≡ live_count xs + 1 = ap (λ (b : Bool). cond b (live_count xs + 1) (live_count xs)) (ap (λ (y : View E). y.live) (some-injective x v e) ∙ is) in omega arith
  some_live (x ∷ xs) (suc j) v e is = at_least_one x.live (live_count xs) (some_live xs j v e is)

  -- where one view is live and it is the first, no other is
  pub only_first : (l : List (View E)) (f : View E) (j : ℕ) (v : View E) → get_elem? l 0 ≡ some f → f.live ≡ true → live_count l ≡ 1 → get_elem? l j ≡ some v → v.live ≡ true → j ≡ 0
  only_first [] f j v e is one at live = absurd (some-ne-none f (sym e))
  only_first (x ∷ xs) f zero v e is one at live = refl
  only_first (x ∷ xs) f (suc j) v e is one at live =
      let up : live_count (x ∷ xs) ≡ live_count xs + 1 = ap (λ (b : Bool). cond b (live_count xs + 1) (live_count xs)) (ap (λ (y : View E). y.live) (some-injective x f e) ∙ is) in
      let more = some_live xs j v at live in absurd (omega arith)
