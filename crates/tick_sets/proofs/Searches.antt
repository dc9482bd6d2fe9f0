-- The first tick of a look-ahead at which a test passes.
use Rattle.std.proofs.Common.{◌≡◌, refl, sym, ap, ◌∙◌, ℕ, zero, suc, ◌+◌, ◌<◌, ◌≤◌, Bool, true, false, true≢false, cond, Option, Some, None, MatchOption, find, inl, inr, arith}
use Rattle.std.proofs.lemmas.Bool.{cases_lt}
use Rattle.std.specs.List.{range_with_len}
use Rattle.tick_sets.specs.Searches.{ticks_to, Finds}

-- the test fails at each of n ticks from a on
abbrev FailsAt : (ℕ → Bool) → ℕ → ℕ → Type 0
FailsAt p a n = (t : ℕ) → a ≤ t → t < a + n → p t ≡ false

-- k is the first of n ticks from a on at which it passes
record IsFirstFrom (p : ℕ → Bool) (a n k : ℕ) : Type 0 where
  not_before : a ≤ k
  inside : k < a + n
  passes : p k ≡ true
  earlier : (t : ℕ) → a ≤ t → t < k → p t ≡ false

abbrev FindsFrom : (ℕ → Bool) → ℕ → ℕ → Option ℕ → Type 0
FindsFrom p a n found = MatchOption found (FailsAt p a n) (λ k. IsFirstFrom p a n k)

fails_on : (p : ℕ → Bool) (a t : ℕ) → p a ≡ false → a ≤ t → (a + 1 ≤ t → p t ≡ false) → p t ≡ false
fails_on p a t here from later = elim (cases_lt a t) [ inl after ↦ later (omega arith) | inr at ↦ (let same : t ≡ a = omega arith in rw same here) ]

later : (p : ℕ → Bool) (a n : ℕ) (found : Option ℕ) → p a ≡ false → FindsFrom p (a + 1) n found → FindsFrom p a (suc n) found
later p a n None here fails = λ t from to. fails_on p a t here from (λ after. fails t after (omega arith))
later p a n (Some k) here first = record {
  not_before = (let h = first.not_before in omega arith);
  inside = (let h = first.inside in omega arith);
  passes = first.passes;
  earlier = λ t from to. fails_on p a t here from (λ after. first.earlier t after to);
}

now_or_later : (p : ℕ → Bool) (a n : ℕ) (here : Bool) (found : Option ℕ) → p a ≡ here → FindsFrom p (a + 1) n found → FindsFrom p a (suc n) (cond here (Some a) found)
now_or_later p a n true found passes rest = record {
  not_before = omega arith;
  inside = omega arith;
  passes = passes;
  earlier = λ t from to. absurd (omega arith);
}
now_or_later p a n false found fails rest = later p a n found fails rest

search_finds : (p : ℕ → Bool) (a n : ℕ) → FindsFrom p a n (find p (range_with_len a n))
search_finds p a zero = λ t from to. absurd (omega arith)
search_finds p a (suc n) = now_or_later p a n (p a) (find p (range_with_len (a + 1) n)) refl (search_finds p (a + 1) n)

ahead_of : (p : ℕ → Bool) (look : ℕ) (found : Option ℕ) → FindsFrom p 0 (look + 1) found → Finds p look found
ahead_of p look None fails = λ t ahead. fails t (omega arith) (omega arith)
ahead_of p look (Some k) first = record {
  ahead = (let h = first.inside in omega arith);
  passes = first.passes;
  earlier = λ t before. first.earlier t (omega arith) before;
}

-- a search finds the first pass
pub finds : (p : ℕ → Bool) (look : ℕ) → Finds p look (find p (ticks_to look))
finds p look = ahead_of p look (find p (ticks_to look)) (search_finds p 0 (look + 1))

-- and nothing else is that
pub one_answer : (p : ℕ → Bool) (look : ℕ) (found other : Option ℕ) → Finds p look found → Finds p look other → found ≡ other
one_answer p look None None fails none = refl
one_answer p look None (Some k) fails first = absurd (true≢false (sym first.passes ∙ fails k first.ahead))
one_answer p look (Some k) None first fails = absurd (true≢false (sym first.passes ∙ fails k first.ahead))
one_answer p look (Some k) (Some j) first other =
    elim (cases_lt j k) [
      | inl before ↦ absurd (true≢false (sym other.passes ∙ first.earlier j before))
      | inr not_before ↦
          elim (cases_lt k j) [
            | inl after ↦ absurd (true≢false (sym first.passes ∙ other.earlier k after))
            | inr not_after ↦ (let same : k ≡ j = omega arith in ap Some same)
          ]
    ]

pub found_is : (p : ℕ → Bool) (look : ℕ) (found : Option ℕ) → Finds p look found → find p (ticks_to look) ≡ found
found_is p look found is = one_answer p look (find p (ticks_to look)) found (finds p look) is
