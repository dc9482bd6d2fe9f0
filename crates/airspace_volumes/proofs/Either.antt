-- A test of one of two things, the second of which is asked only where the first fails.
use Rattle.std.proofs.Common.{◌≡◌, sym, ◌∙◌, Bool, true, false, true≢false, IsTrue, ◌↔◌, ◌⊎◌, inl, inr}

pub first_holds : {A B : Type 0} (first : Bool) → first ≡ true → (IsTrue first ↔ A) → IsTrue first ↔ (A ⊎ B)
first_holds first holds is_first = (λ h. inl (is_first.0 h), λ either. holds)

pub first_fails : {A B : Type 0} (first second : Bool) → first ≡ false → (IsTrue first ↔ A) → (IsTrue second ↔ B) → IsTrue second ↔ (A ⊎ B)
first_fails first second fails is_first is_second = (
  λ h. inr (is_second.0 h),
  λ either. elim either [
    | inl a ↦ absurd (true≢false (sym (is_first.1 a) ∙ fails))
    | inr b ↦ is_second.1 b
  ],
)
