-- Stamps by the cycles in which they were told.
use Rattle.std.proofs.Common.{◌≡◌, ◌∙◌, ◌⊎◌, inl, inr, ◌+◌, ◌<◌, ◌≤◌, ℕ, zero, suc, Bool, true, false, cond, nat_le, nat_eq, not, List, [], ◌∷◌, ◌++◌, length, map, refl, sym, ap, ap₂, subst, arith}
use Rattle.std.specs.Prelude.{filter, ⊤}
use Rattle.std.specs.List.{All, AllByRecursion, Contains, flat_map, list_any}
use Rattle.std.specs.List.Sorted.{IsNonDecreasingBy}
use Rattle.std.proofs.lemmas.Bool.{cases_lt}
use Rattle.std.proofs.lemmas.List.Elements.{All-append, All-contains, All-contains_itself, All-filter, All-from_recursion, All-nil, All-weaker, Contains-append_cases, Contains-append_left, Contains-append_right, filter-append, filter_passes, recursion_from_All}
use Rattle.track_motion.specs.declared.rank.Stamped.{Stamped}
use Rattle.track_table.specs.Order.{AreSame}
use Rattle.track_table.specs.Tables.{due}
use Rattle.feed_threads.specs.Cycling.{behind_due, due_front, due_fronts}

-- of stamps those that were told in a cycle or later, those that were told in it, and those that were told before it, in the order of cycles
abbrev pub upcoming : ℕ → List Stamped → List Stamped
upcoming cycle stamps = filter (λ s. nat_le cycle s.window) stamps

abbrev pub told_in : ℕ → List Stamped → List Stamped
told_in cycle stamps = filter (λ s. nat_eq s.window cycle) stamps

abbrev pub told_before : ℕ → List Stamped → List Stamped
told_before zero stamps = []
told_before (suc cycle) stamps = told_before cycle stamps ++ told_in cycle stamps

-- ---- tests on numbers

le_true : (m n : ℕ) → m ≤ n → nat_le m n ≡ true
le_true m n below = grind arith

le_false : (m n : ℕ) → n < m → nat_le m n ≡ false
le_false m n above = grind arith

true_le : (m n : ℕ) → nat_le m n ≡ true → m ≤ n
true_le m n is = grind arith

eq_true : (m n : ℕ) → m ≡ n → nat_eq m n ≡ true
eq_true m n same = grind arith

eq_false_below : (m n : ℕ) → m < n → nat_eq m n ≡ false
eq_false_below m n below = grind arith

eq_false_above : (m n : ℕ) → n < m → nat_eq m n ≡ false
eq_false_above m n above = grind arith

true_eq : (m n : ℕ) → nat_eq m n ≡ true → m ≡ n
true_eq m n is = grind arith

-- ---- what is in a list, and in what is filtered of it

in_none : {X : Type 0} (r : X) → Contains [] r → ⊥
in_none r has = let below = has.1 in omega arith

first_or_later : {X : Type 0} (x : X) (xs : List X) (r : X) → Contains (x ∷ xs) r → (x ≡ r) ⊎ Contains xs r
first_or_later x xs r (zero, within, is) = inl is
first_or_later x xs r (suc k, within, is) = inr (k, omega arith, is)

keeps : {X : Type 0} (p : X → Bool) (x : X) (xs : List X) → p x ≡ true → filter p (x ∷ xs) ≡ x ∷ filter p xs
keeps p x xs is = ap (λ b. cond b (x ∷ filter p xs) (filter p xs)) is

drops : {X : Type 0} (p : X → Bool) (x : X) (xs : List X) → p x ≡ false → filter p (x ∷ xs) ≡ filter p xs
drops p x xs is = ap (λ b. cond b (x ∷ filter p xs) (filter p xs)) is

stays_after : {X : Type 0} (p : X → Bool) (x : X) (xs : List X) (r : X) (b : Bool) → p x ≡ b → p r ≡ true → (x ≡ r) ⊎ Contains (filter p xs) r → Contains (filter p (x ∷ xs)) r
stays_after p x xs r true at passes (inl same) = subst (λ ys. Contains ys r) (sym (keeps p x xs at)) (0, omega arith, same)
stays_after p x xs r true at passes (inr has) = subst (λ ys. Contains ys r) (sym (keeps p x xs at)) (Contains-append_right (x ∷ []) (filter p xs) r has)
stays_after p x xs r false at passes (inl same) = let fails = ap p same in absurd (cc)
stays_after p x xs r false at passes (inr has) = subst (λ ys. Contains ys r) (sym (drops p x xs at)) has

in_rest : {X : Type 0} (p : X → Bool) (x : X) (xs : List X) (r : X) → (Contains xs r → Contains (filter p xs) r) → (x ≡ r) ⊎ Contains xs r → (x ≡ r) ⊎ Contains (filter p xs) r
in_rest p x xs r again (inl same) = inl same
in_rest p x xs r again (inr has) = inr (again has)

-- what is in a list and passes a test is in its filter
stays : {X : Type 0} (p : X → Bool) (xs : List X) (r : X) → p r ≡ true → Contains xs r → Contains (filter p xs) r
stays p [] r passes has = absurd (in_none r has)
stays p (x ∷ xs) r passes has = stays_after p x xs r (p x) refl passes (in_rest p x xs r (stays p xs r passes) (first_or_later x xs r has))

-- what is in a filter is in the list and passes the test
was_in : {X : Type 0} (p : X → Bool) (xs : List X) (r : X) → Contains (filter p xs) r → Contains xs r
was_in p xs r has = All-contains (Contains xs) (filter p xs) r (All-filter p (Contains xs) xs (All-contains_itself xs)) has

passes_in : {X : Type 0} (p : X → Bool) (xs : List X) (r : X) → Contains (filter p xs) r → p r ≡ true
passes_in p xs r has = All-contains (λ x. p x ≡ true) (filter p xs) r (filter_passes p xs) has

none_kept : {X : Type 0} (p : X → Bool) (xs : List X) → AllByRecursion (λ x. p x ≡ false) xs → filter p xs ≡ []
none_kept p [] each = refl
none_kept p (x ∷ xs) each = drops p x xs each.0 ∙ none_kept p xs each.1

all_kept : {X : Type 0} (p : X → Bool) (xs : List X) → AllByRecursion (λ x. p x ≡ true) xs → filter p xs ≡ xs
all_kept p [] each = refl
all_kept p (x ∷ xs) each = keeps p x xs each.0 ∙ ap (λ ys. x ∷ ys) (all_kept p xs each.1)

-- what all have that are in the list
pub all_from_contains : {X : Type 0} (P : X → Type 0) (xs : List X) → ((x : X) → Contains xs x → P x) → All P xs
all_from_contains P xs each = All-weaker (Contains xs) P each xs (All-contains_itself xs)

each_weaker : {X : Type 0} (P Q : X → Type 0) → ((x : X) → P x → Q x) → (xs : List X) → AllByRecursion P xs → AllByRecursion Q xs
each_weaker P Q weaker [] each = tt
each_weaker P Q weaker (x ∷ xs) each = (weaker x each.0, each_weaker P Q weaker xs each.1)

-- ---- a feed, in which windows never fall

-- each window is followed by none that is lower
abbrev pub Rises : List Stamped → Type 0
Rises [] = ⊤
Rises (s ∷ others) = AllByRecursion (λ t. s.window ≤ t.window) others × Rises others

pub rises : (ss : List Stamped) → IsNonDecreasingBy (λ s. s.window) ss → Rises ss
rises [] law = tt
rises (s ∷ ss) law = (
  recursion_from_All (λ t. s.window ≤ t.window) ss (λ k d within. law 0 (suc k) d (omega arith) (omega arith)),
  rises ss (λ i j d order within. law (suc i) (suc j) d (omega arith) (omega arith)),
)

front_goes_on : (k : ℕ) (s : Stamped) (ss : List Stamped) → s.window ≤ k → due_front k (s ∷ ss) ≡ s ∷ due_front k ss
front_goes_on k s ss below = ap (λ b. cond b (s ∷ due_front k ss) []) (le_true s.window k below)

front_ends : (k : ℕ) (s : Stamped) (ss : List Stamped) → k < s.window → due_front k (s ∷ ss) ≡ []
front_ends k s ss above = ap (λ b. cond b (s ∷ due_front k ss) []) (le_false s.window k above)

behind_goes_on : (k : ℕ) (s : Stamped) (ss : List Stamped) → s.window ≤ k → behind_due k (s ∷ ss) ≡ behind_due k ss
behind_goes_on k s ss below = ap (λ b. cond b (behind_due k ss) (s ∷ ss)) (le_true s.window k below)

behind_ends : (k : ℕ) (s : Stamped) (ss : List Stamped) → k < s.window → behind_due k (s ∷ ss) ≡ s ∷ ss
behind_ends k s ss above = ap (λ b. cond b (behind_due k ss) (s ∷ ss)) (le_false s.window k above)

upcoming_keeps : (k : ℕ) (s : Stamped) (ss : List Stamped) → k ≤ s.window → upcoming k (s ∷ ss) ≡ s ∷ upcoming k ss
upcoming_keeps k s ss above = keeps (λ (t : Stamped). nat_le k t.window) s ss (le_true k s.window above)

upcoming_drops : (k : ℕ) (s : Stamped) (ss : List Stamped) → s.window < k → upcoming k (s ∷ ss) ≡ upcoming k ss
upcoming_drops k s ss below = drops (λ (t : Stamped). nat_le k t.window) s ss (le_false k s.window below)

all_upcoming : (k w : ℕ) (ss : List Stamped) → k ≤ w → AllByRecursion (λ t. w ≤ t.window) ss → upcoming k ss ≡ ss
all_upcoming k w ss below each = all_kept (λ (t : Stamped). nat_le k t.window) ss (each_weaker (λ t. w ≤ t.window) (λ t. nat_le k t.window ≡ true) (λ t above. le_true k t.window (omega arith)) ss each)

none_told_in : (k w : ℕ) (ss : List Stamped) → k < w → AllByRecursion (λ t. w ≤ t.window) ss → told_in k ss ≡ []
none_told_in k w ss below each =
    none_kept (λ (t : Stamped). nat_eq t.window k) ss (each_weaker (λ t. w ≤ t.window) (λ t. nat_eq t.window k ≡ false) (λ t above. eq_false_above t.window k (omega arith)) ss each)

-- those at the front of a feed's upcoming stamps that are due were told in the cycle, and those behind are upcoming after it
record IsCut (k : ℕ) (ss : List Stamped) : Type 0 where
  pub front : due_front k (upcoming k ss) ≡ told_in k ss
  pub behind : behind_due k (upcoming k ss) ≡ upcoming (k + 1) ss

cut_below : (k : ℕ) (s : Stamped) (ss : List Stamped) → s.window < k → IsCut k ss → IsCut k (s ∷ ss)
cut_below k s ss below cut = record {
  front = ap (due_front k) (upcoming_drops k s ss below) ∙ cut.front ∙ sym (drops (λ (t : Stamped). nat_eq t.window k) s ss (eq_false_below s.window k below));
  behind = ap (behind_due k) (upcoming_drops k s ss below) ∙ cut.behind ∙ sym (upcoming_drops (k + 1) s ss (omega arith));
}

cut_here : (k : ℕ) (s : Stamped) (ss : List Stamped) → s.window ≡ k → IsCut k ss → IsCut k (s ∷ ss)
cut_here k s ss here cut = record {
  front = ap (due_front k) (upcoming_keeps k s ss (omega arith)) ∙ front_goes_on k s (upcoming k ss) (omega arith) ∙ ap (λ ts. s ∷ ts) cut.front ∙ sym (keeps (λ (t : Stamped). nat_eq t.window k) s ss (eq_true s.window k here));
  behind = ap (behind_due k) (upcoming_keeps k s ss (omega arith)) ∙ behind_goes_on k s (upcoming k ss) (omega arith) ∙ cut.behind ∙ sym (upcoming_drops (k + 1) s ss (omega arith));
}

cut_above : (k : ℕ) (s : Stamped) (ss : List Stamped) → k < s.window → AllByRecursion (λ t. s.window ≤ t.window) ss → IsCut k (s ∷ ss)
cut_above k s ss above each = record {
  front = ap (due_front k) (upcoming_keeps k s ss (omega arith)) ∙ front_ends k s (upcoming k ss) above
      ∙ sym (drops (λ (t : Stamped). nat_eq t.window k) s ss (eq_false_above s.window k above) ∙ none_told_in k s.window ss above each);
  behind = ap (behind_due k) (upcoming_keeps k s ss (omega arith)) ∙ behind_ends k s (upcoming k ss) above
      ∙ ap (λ ts. s ∷ ts) (all_upcoming k s.window ss (omega arith) each ∙ sym (all_upcoming (k + 1) s.window ss (omega arith) each))
      ∙ sym (upcoming_keeps (k + 1) s ss (omega arith));
}

cut_at : (k : ℕ) (s : Stamped) (ss : List Stamped) → AllByRecursion (λ t. s.window ≤ t.window) ss → IsCut k ss → (s.window < k) ⊎ (k ≤ s.window) → (k < s.window) ⊎ (s.window ≤ k) → IsCut k (s ∷ ss)
cut_at k s ss each cut (inl below) other = cut_below k s ss below cut
cut_at k s ss each cut (inr from) (inl above) = cut_above k s ss above each
cut_at k s ss each cut (inr from) (inr upto) = cut_here k s ss (omega arith) cut

is_cut : (k : ℕ) (ss : List Stamped) → Rises ss → IsCut k ss
is_cut k [] rise = record { front = refl; behind = refl }
is_cut k (s ∷ ss) rise = cut_at k s ss rise.0 (is_cut k ss rise.1) (cases_lt s.window k) (cases_lt k s.window)

-- ---- all feeds

module _ {E : Type 0} (f : E → List Stamped) where
  -- of all feeds
  pub fronts_are : (k : ℕ) (es : List E) → ((e : E) → Rises (f e)) → due_fronts k (map (upcoming k) (map f es)) ≡ told_in k (flat_map f es)
  fronts_are k [] rise = refl
  fronts_are k (e ∷ es) rise =
      ap₂ (λ (a b : List Stamped). a ++ b) (is_cut k (f e) (rise e)).front (fronts_are k es rise)
      ∙ sym (filter-append (λ (t : Stamped). nat_eq t.window k) (f e) (flat_map f es))

  pub lefts_are : (k : ℕ) (es : List E) → ((e : E) → Rises (f e)) → map (behind_due k) (map (upcoming k) (map f es)) ≡ map (upcoming (k + 1)) (map f es)
  lefts_are k [] rise = refl
  lefts_are k (e ∷ es) rise = ap₂ (λ (a : List Stamped) (b : List (List Stamped)). a ∷ b) (is_cut k (f e) (rise e)).behind (lefts_are k es rise)

  all_from_none : (ss : List Stamped) → upcoming 0 ss ≡ ss
  all_from_none [] = refl
  all_from_none (s ∷ ss) = upcoming_keeps 0 s ss (omega arith) ∙ ap (λ ts. s ∷ ts) (all_from_none ss)

  -- before the first cycle all are upcoming
  pub all_at_first : (es : List E) → map f es ≡ map (upcoming 0) (map f es)
  all_at_first [] = refl
  all_at_first (e ∷ es) = ap₂ (λ (a : List Stamped) (b : List (List Stamped)). a ∷ b) (sym (all_from_none (f e))) (all_at_first es)

  -- what the stamps of each feed have, those of all have
  pub all_stamps : (P : Stamped → Type 0) (es : List E) → AllByRecursion (λ e. All P (f e)) es → All P (flat_map f es)
  all_stamps P [] each = All-nil P
  all_stamps P (e ∷ es) each = All-append P (f e) (flat_map f es) each.0 (all_stamps P es each.1)

  -- ---- whether some are left

  left_at : (k : ℕ) (e : E) (es : List E) (left : List Stamped) → upcoming k (f e) ≡ left → (list_any (λ l. not (nat_eq (length l) 0)) (map (upcoming k) (map f es)) ≡ true → (s : Stamped) × Contains (flat_map f es) s × (k ≤ s.window)) →
      list_any (λ l. not (nat_eq (length l) 0)) (left ∷ map (upcoming k) (map f es)) ≡ true → (s : Stamped) × Contains (flat_map f (e ∷ es)) s × (k ≤ s.window)
  left_at k e es [] is again any = let found = again any in (found.0, Contains-append_right (f e) (flat_map f es) found.0 found.1, found.2)
  left_at k e es (s ∷ left) is again any =
      let has : Contains (upcoming k (f e)) s = subst (λ ss. Contains ss s) (sym is) (0, omega arith, refl) in
      let late = true_le k s.window (passes_in (λ (t : Stamped). nat_le k t.window) (f e) s has) in
      (s, Contains-append_left (f e) (flat_map f es) s (was_in (λ (t : Stamped). nat_le k t.window) (f e) s has), late)

  pub some_left : (k : ℕ) (es : List E) → list_any (λ l. not (nat_eq (length l) 0)) (map (upcoming k) (map f es)) ≡ true → (s : Stamped) × Contains (flat_map f es) s × (k ≤ s.window)
  some_left k [] any = absurd (cc)
  some_left k (e ∷ es) any = left_at k e es (upcoming k (f e)) refl (some_left k es) any

  told_before_at : (k : ℕ) (s : Stamped) (ss : List Stamped) → Contains ss s → upcoming k ss ≡ [] → (s.window < k) ⊎ (k ≤ s.window) → s.window < k
  told_before_at k s ss has none (inl below) = below
  told_before_at k s ss has none (inr late) = absurd (in_none s (subst (λ (ts : List Stamped). Contains ts s) none (stays (λ (t : Stamped). nat_le k t.window) ss s (le_true k s.window late) has)))

  none_at : (k : ℕ) (e : E) (es : List E) (left : List Stamped) → upcoming k (f e) ≡ left → (list_any (λ l. not (nat_eq (length l) 0)) (map (upcoming k) (map f es)) ≡ false → All (λ s. s.window < k) (flat_map f es)) →
      list_any (λ l. not (nat_eq (length l) 0)) (left ∷ map (upcoming k) (map f es)) ≡ false → All (λ s. s.window < k) (flat_map f (e ∷ es))
  none_at k e es [] is again any =
      All-append (λ (s : Stamped). s.window < k) (f e) (flat_map f es)
      (all_from_contains (λ (s : Stamped). s.window < k) (f e) (λ s has. told_before_at k s (f e) has is (cases_lt s.window k))) (again any)
  none_at k e es (s ∷ left) is again any =
      let some : nat_eq (length (s ∷ left)) 0 ≡ false = eq_false_above (length (s ∷ left)) 0 (omega arith) in
      absurd (cc)

  pub none_left : (k : ℕ) (es : List E) → list_any (λ l. not (nat_eq (length l) 0)) (map (upcoming k) (map f es)) ≡ false → All (λ s. s.window < k) (flat_map f es)
  none_left k [] any = All-nil (λ (s : Stamped). s.window < k)
  none_left k (e ∷ es) any = none_at k e es (upcoming k (f e)) refl (none_left k es) any

-- ---- those told before a cycle

-- it is one of the stamps, and was told before the cycle
record IsBefore (k : ℕ) (ss : List Stamped) (s : Stamped) : Type 0 where
  pub one : Contains ss s
  pub told : s.window < k

before_at : (k : ℕ) (ss : List Stamped) (s : Stamped) → (Contains (told_before k ss) s → IsBefore k ss s) → Contains (told_before k ss) s ⊎ Contains (told_in k ss) s → IsBefore (suc k) ss s
before_at k ss s again (inl has) = let before = again has in let told = before.told in record { one = before.one; told = omega arith }
before_at k ss s again (inr has) =
    let told = true_eq s.window k (passes_in (λ (t : Stamped). nat_eq t.window k) ss s has) in
    record { one = was_in (λ (t : Stamped). nat_eq t.window k) ss s has; told = omega arith }

is_before : (k : ℕ) (ss : List Stamped) (s : Stamped) → Contains (told_before k ss) s → IsBefore k ss s
is_before zero ss s has = absurd (in_none s has)
is_before (suc k) ss s has = before_at k ss s (is_before k ss s) (Contains-append_cases (told_before k ss) (told_in k ss) s has)

has_at : (k : ℕ) (ss : List Stamped) (s : Stamped) → (s.window < k → Contains (told_before k ss) s) → Contains ss s → s.window < suc k → (s.window < k) ⊎ (k ≤ s.window) → Contains (told_before (suc k) ss) s
has_at k ss s again has told (inl below) = Contains-append_left (told_before k ss) (told_in k ss) s (again below)
has_at k ss s again has told (inr from) = Contains-append_right (told_before k ss) (told_in k ss) s (stays (λ (t : Stamped). nat_eq t.window k) ss s (eq_true s.window k (omega arith)) has)

has_before : (k : ℕ) (ss : List Stamped) (s : Stamped) → Contains ss s → s.window < k → Contains (told_before k ss) s
has_before zero ss s has told = absurd (omega arith)
has_before (suc k) ss s has told = has_at k ss s (has_before k ss s has) has told (cases_lt s.window k)

-- they are due by the end of the cycle before
pub before_is_due : (k : ℕ) (ss : List Stamped) → All (λ r. r.window ≤ k) (told_before (suc k) ss)
before_is_due k ss = all_from_contains (λ (r : Stamped). r.window ≤ k) (told_before (suc k) ss) (λ r has. let told = (is_before (suc k) ss r has).told in omega arith)

-- and are the same as all that are
pub same_due : (k : ℕ) (ss : List Stamped) → AreSame (due k ss) (told_before (suc k) ss)
same_due k ss = record {
  each = λ r has. let told = true_le r.window k (passes_in (λ (t : Stamped). nat_le t.window k) ss r has) in has_before (suc k) ss r (was_in (λ (t : Stamped). nat_le t.window k) ss r has) (omega arith);
  all = λ r has. let before = is_before (suc k) ss r has in let told = before.told in stays (λ (t : Stamped). nat_le t.window k) ss r (le_true r.window k (omega arith)) before.one;
}

-- what all stamps have, those have
pub all_before : (P : Stamped → Type 0) (k : ℕ) (ss : List Stamped) → All P ss → All P (told_before k ss)
all_before P k ss all = all_from_contains P (told_before k ss) (λ r has. All-contains P ss r all (is_before k ss r has).one)
