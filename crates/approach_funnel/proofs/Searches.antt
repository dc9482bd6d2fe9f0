-- The first tick of a look-ahead at which a test passes, among sets of ticks and among other such ticks.
use Rattle.std.proofs.Common.{◌≡◌, refl, sym, ap, ◌∙◌, ℕ, ◌<◌, ◌≤◌, ℤ, pos, ◌≤ℤ◌, ◌<ℤ◌, Bool, true, false, cond, ◌&&◌, ◌||◌, int_lt, Option, Some, None, MatchOption, IfNone, IfSome, option_map, find, unsigned_abs, arith}
use Rattle.std.proofs.lemmas.Bool.{and_from, and_parts, false_from_ne_true, or_from, or_left, or_right}
use Rattle.std.proofs.lemmas.Int.{ints}
use Rattle.tick_sets.specs.Inequalities.{IsLook}
use Rattle.tick_sets.specs.Searches.{FailsAhead, Finds, IsFirstPass, ticks_to}
use Rattle.tick_sets.specs.Ticks.{Has, AreTicksWhere}
use Rattle.tick_sets.specs.declared.Ticks.{Ticks}
use Rattle.approach_funnel.specs.Firsts.{earlier_of}

-- what the laws of searches say
abbrev pub FindsEach : Type 0
FindsEach = (p : ℕ → Bool) (look : ℕ) → Finds p look (find p (ticks_to look))

abbrev pub OnlyFinds : Type 0
OnlyFinds = (p : ℕ → Bool) (look : ℕ) (found : Option ℕ) → Finds p look found → find p (ticks_to look) ≡ found

-- ---- a test and its fact
pub lt_fact : (x y : ℤ) → int_lt x y ≡ true → x <ℤ y
lt_fact x y h = omega (arith, ints)

pub lt_true : (x y : ℤ) → x <ℤ y → int_lt x y ≡ true
lt_true x y h = sym (omega (arith, ints))

-- ---- in two sets of ticks
pub first_in_both : OnlyFinds → (D K : ℤ → Type 0) (d k : ℤ → Bool) (l : ℤ) (before ticks : Ticks) (r : Option ℤ) → IsLook l →
    ((t : ℤ) → d t ≡ true → D t) → ((t : ℤ) → D t → d t ≡ true) → ((t : ℤ) → k t ≡ true → K t) → ((t : ℤ) → K t → k t ≡ true) →
    AreTicksWhere D l before → AreTicksWhere K l ticks →
    IfNone r ((t : ℤ) → Has before t → ¬ Has ticks t) → IfSome r (λ first. Has before first × Has ticks first) → IfSome r (λ first. (t : ℤ) → Has before t → Has ticks t → first ≤ℤ t) →
    r ≡ option_map (λ (t : ℕ). pos t) (find (λ t. d (pos t) && k (pos t)) (ticks_to (unsigned_abs l)))
first_in_both only D K d k l before ticks None look d_fact d_true k_fact k_true in_d in_k none member first =
    let low = look.low in
    sym (ap (λ (o : Option ℕ). option_map (λ (t : ℕ). pos t) o) (only (λ t. d (pos t) && k (pos t)) (unsigned_abs l) None
    (λ t ahead. false_from_ne_true _ (λ passes.
    let parts = and_parts _ _ passes in
    none (pos t) (in_d.all (pos t) (omega (arith, ints)) (omega (arith, ints)) (d_fact (pos t) parts.0)) (in_k.all (pos t) (omega (arith, ints)) (omega (arith, ints)) (k_fact (pos t) parts.1))))))
first_in_both only D K d k l before ticks (Some tick) look d_fact d_true k_fact k_true in_d in_k none member first =
    let low = look.low in
    let ends = in_d.within tick member.0 in
    let begun = ends.0 in
    let over = ends.1 in
    let is : tick ≡ pos (unsigned_abs tick) = omega (arith, ints) in
    ap Some is ∙ sym (ap (λ (o : Option ℕ). option_map (λ (t : ℕ). pos t) o) (only (λ t. d (pos t) && k (pos t)) (unsigned_abs l) (Some (unsigned_abs tick)) (record {
      ahead = omega (arith, ints);
      passes = rw (← is) (and_from _ _ (d_true tick (in_d.holds tick member.0)) (k_true tick (in_k.holds tick member.1)));
      earlier = λ t sooner. false_from_ne_true _ (λ passes.
          let parts = and_parts _ _ passes in
          let least = first (pos t) (in_d.all (pos t) (omega (arith, ints)) (omega (arith, ints)) (d_fact (pos t) parts.0)) (in_k.all (pos t) (omega (arith, ints)) (omega (arith, ints)) (k_fact (pos t) parts.1)) in
          absurd (omega (arith, ints)));
    })))

-- ---- what a search finds, as a whole number
abbrev pub IsPassAt : (ℕ → Bool) → ℕ → ℤ → Type 0
IsPassAt p look first = (t : ℕ) × (first ≡ pos t) × IsFirstPass p look t

abbrev pub FindsAt : (ℕ → Bool) → ℕ → Option ℤ → Type 0
FindsAt p look found = MatchOption found (FailsAhead p look) (IsPassAt p look)

as_number : (p : ℕ → Bool) (look : ℕ) (found : Option ℕ) → Finds p look found → FindsAt p look (option_map (λ (t : ℕ). pos t) found)
as_number p look None fails = fails
as_number p look (Some t) first = (t, refl, first)

pub finds_at : FindsEach → (p : ℕ → Bool) (look : ℕ) (o : Option ℤ) → o ≡ option_map (λ (t : ℕ). pos t) (find p (ticks_to look)) → FindsAt p look o
finds_at finds p look o is = rw is (as_number p look (find p (ticks_to look)) (finds p look))

pub found_none : OnlyFinds → (p : ℕ → Bool) (look : ℕ) → FindsAt p look None → find p (ticks_to look) ≡ None
found_none only p look fails = only p look None fails

pub found_some : OnlyFinds → (p : ℕ → Bool) (look t : ℕ) → IsFirstPass p look t → find p (ticks_to look) ≡ Some t
found_some only p look t first = only p look (Some t) first

-- the same of a test that is the same at each tick
pub finds_same : (p q : ℕ → Bool) (look : ℕ) (o : Option ℤ) → ((t : ℕ) → p t ≡ q t) → FindsAt p look o → FindsAt q look o
finds_same p q look None same fails = λ t ahead. sym (same t) ∙ fails t ahead
finds_same p q look (Some first) same (t, is, pass) = (
  t,
  is,
  record {
    ahead = pass.ahead;
    passes = sym (same t) ∙ pass.passes;
    earlier = λ s sooner. sym (same s) ∙ pass.earlier s sooner;
  },
)

-- ---- the earlier of two is the first of either test
earlier_first : (p q : ℕ → Bool) (look s t : ℕ) → IsFirstPass p look s → IsFirstPass q look t → t < s → IsFirstPass (λ u. p u || q u) look t
earlier_first p q look s t first second sooner = record {
  ahead = second.ahead;
  passes = or_right _ _ second.passes;
  earlier = λ u before. or_from _ _ (first.earlier u (omega arith)) (second.earlier u before);
}

later_second : (p q : ℕ → Bool) (look s t : ℕ) → IsFirstPass p look s → IsFirstPass q look t → s ≤ t → IsFirstPass (λ u. p u || q u) look s
later_second p q look s t first second later = record {
  ahead = first.ahead;
  passes = or_left _ _ first.passes;
  earlier = λ u before. or_from _ _ (first.earlier u before) (second.earlier u (omega arith));
}

of_two : (p q : ℕ → Bool) (look : ℕ) (a b : ℤ) (sooner : Bool) → int_lt b a ≡ sooner → IsPassAt p look a → IsPassAt q look b → IsPassAt (λ u. p u || q u) look (cond sooner b a)
of_two p q look a b true less (s, a_is, first) (t, b_is, second) = (t, b_is, earlier_first p q look s t first second (omega (arith, ints)))
of_two p q look a b false not_less (s, a_is, first) (t, b_is, second) = (s, a_is, later_second p q look s t first second (omega (arith, ints)))

pub earlier_finds : (p q : ℕ → Bool) (look : ℕ) (a b : Option ℤ) → FindsAt p look a → FindsAt q look b → FindsAt (λ t. p t || q t) look (earlier_of a b)
earlier_finds p q look None None fails none = λ t ahead. or_from _ _ (fails t ahead) (none t ahead)
earlier_finds p q look None (Some b) fails (t, is, second) = (
  t,
  is,
  record {
    ahead = second.ahead;
    passes = or_right _ _ second.passes;
    earlier = λ u before. let inside = second.ahead in or_from _ _ (fails u (omega arith)) (second.earlier u before);
  },
)
earlier_finds p q look (Some a) None (s, is, first) none = (
  s,
  is,
  record {
    ahead = first.ahead;
    passes = or_left _ _ first.passes;
    earlier = λ u before. let inside = first.ahead in or_from _ _ (first.earlier u before) (none u (omega arith));
  },
)
earlier_finds p q look (Some a) (Some b) first second = of_two p q look a b (int_lt b a) refl first second
