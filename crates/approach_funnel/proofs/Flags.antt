-- The flags of a hit say what holds at its first tick.
use Rattle.std.proofs.Common.{◌≡◌, refl, sym, ap, ◌∙◌, ℕ, ◌<◌, ◌≤◌, ℤ, pos, Bool, true, false, true≢false, ◌&&◌, Option, Some, None, ◌↔◌, inl, inr, arith}
use Rattle.std.specs.Prelude.{IsTrue}
use Rattle.std.proofs.lemmas.Bool.{and_from, and_parts, cases_lt, false_from_ne_true}
use Rattle.std.proofs.lemmas.Int.{ints}
use Rattle.tick_sets.specs.Searches.{IsFirstPass}
use Rattle.approach_funnel.proofs.Searches.{FindsAt}

-- two tests that hold together are one
same_tests : (a b : Bool) → (a ≡ true → b ≡ true) → (b ≡ true → a ≡ true) → a ≡ b
same_tests true b to from = sym (to refl)
same_tests false true to from = from refl
same_tests false false to from = refl

-- of a way to deviate that is first at that tick
begins_there : (p : ℕ → Bool) (look n : ℕ) (o : Option ℤ) → FindsAt p look o → o ≡ Some (pos n) → p n ≡ true
begins_there p look n None fails is = absurd cc
begins_there p look n (Some first) (t, first_is, pass) is =
    let there : first ≡ pos n = cc in
    let same : t ≡ n = omega (arith, ints) in
    rw same at pass.passes

-- and of one that is so then, where none is before
begins_so : (p : ℕ → Bool) (look n : ℕ) (o : Option ℤ) → FindsAt p look o → n ≤ look → ((t : ℕ) → t < n → p t ≡ false) → p n ≡ true → o ≡ Some (pos n)
begins_so p look n None fails ahead earlier passes = absurd (true≢false (sym passes ∙ fails n ahead))
begins_so p look n (Some first) (t, first_is, pass) ahead earlier passes =
    elim (cases_lt t n) [
      | inl sooner ↦ absurd (true≢false (sym pass.passes ∙ earlier t sooner))
      | inr not_sooner ↦
          elim (cases_lt n t) [
            | inl later ↦ absurd (true≢false (sym passes ∙ pass.earlier n later))
            | inr not_later ↦ (let same : t ≡ n = omega arith in ap Some (first_is ∙ ap (λ (u : ℕ). pos u) same))
          ]
    ]

-- d is the test of being before the threshold, k that of one way to deviate, and whole that of any
pub flag_is : (d k whole : ℕ → Bool) (look n : ℕ) (o : Option ℤ) (r : Bool) → ((t : ℕ) → d t ≡ true → k t ≡ true → whole t ≡ true) → d n ≡ true → IsFirstPass whole look n →
    FindsAt (λ t. d t && k t) look o → (IsTrue r ↔ (o ≡ Some (pos n))) → r ≡ k n
flag_is d k whole look n o r any before first finds told = same_tests r (k n)
    (λ says. let parts = and_parts _ _ (begins_there (λ t. d t && k t) look n o finds (told.0 says)) in parts.1)
    (λ holds. told.1 (begins_so (λ t. d t && k t) look n o finds first.ahead
    (λ t sooner. false_from_ne_true _ (λ passes. let parts = and_parts _ _ passes in true≢false (sym (any t parts.0 parts.1) ∙ first.earlier t sooner)))
    (and_from _ _ before holds)))
