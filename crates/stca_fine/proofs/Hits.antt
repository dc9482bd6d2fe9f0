-- What decides whether a pair is hit, and the words for it.
use Rattle.std.proofs.Common.{◌≡◌, refl, sym, ◌∙◌, inl, inr, ℕ, zero, suc, ◌≤◌, ℤ, pos, ◌≤ℤ◌, Bool, true, false, true≢false, cond, if◌then◌else◌, int_lt, nat_lt, Option, Some, None, IsSome, IfSome, option_map, unsigned_abs, arith}
use Rattle.std.proofs.lemmas.Bool.{and_from, and_left, and_right, and_parts, cases_lt, ltb-true, ltb-false}
use Rattle.std.proofs.lemmas.Int.{ints}
use Rattle.site_types.specs.Ranges.{IsSet}
use Rattle.site_types.specs.Looks.{look_of}
use Rattle.site_types.specs.declared.site.Set.{Set}
use Rattle.site_types.specs.declared.net.TheConstants.{STCA}
use Rattle.tick_sets.specs.Roots.{least_tick_of}
use Rattle.tick_sets.specs.Searches.{Finds}
use Rattle.track_motion.specs.declared.motion.Motion.{Motion}
use Rattle.stca_fine.specs.declared.hit.StcaHit.{StcaHit}
use Rattle.stca_fine.specs.Conflicts.{IsClosest, IsConflict, IsCurrent, IsFirst, IsHit, IsLeastOf}
use Rattle.stca_fine.specs.Relative.{RelativeMotion, StaysBeyond, dx_at, dy_at, dz_at, is_closing, is_within, relative, squared_at}
use Rattle.stca_fine.specs.Stca.{figures, first_predicted, is_current, now_v_of, stca_hit, v_of}
use Rattle.stca_fine.proofs.Apart.{far_along_x, far_along_y}
use Rattle.stca_fine.proofs.Within.{le_fact, le_true, within_fact, within_true}
use Rattle.stca_fine.proofs.Sets.{length_limit}
use Rattle.stca_fine.proofs.Searches.{OnlyThatIsFound, SearchesFind}

-- ---- what the code finds
pub no_hit : (a b : Motion) (set : Set) → is_current a b set ≡ false → first_predicted a b set ≡ None → stca_hit a b set ≡ None
no_hit a b set not_now none = rw (not_now, none) refl

pub hit_now : (a b : Motion) (set : Set) → is_current a b set ≡ true → stca_hit a b set ≡ Some (figures (relative a b) set true 0)
hit_now a b set now = rw now refl

pub hit_ahead : (a b : Motion) (set : Set) (t : ℕ) → is_current a b set ≡ false → first_predicted a b set ≡ Some t → stca_hit a b set ≡ Some (figures (relative a b) set false t)
hit_ahead a b set t not_now found = rw (not_now, found) refl

-- ---- pairs that stay apart
not_below : (d h limit : ℤ) → h ≤ℤ limit → limit ≤ℤ pos (unsigned_abs d) → int_lt (pos (unsigned_abs d)) h ≡ false
not_below d h limit low far = sym (omega (arith, ints))

pub beyond_x : (r : RelativeMotion) (h v limit l : ℤ) (t : ℕ) → pos 0 ≤ℤ h → h ≤ℤ limit → StaysBeyond r.dx r.dvx limit l → pos t ≤ℤ l → is_within r h v t ≡ false
beyond_x r h v limit l t low under beyond inside = and_left _ _ (far_along_x (dx_at r t) (dy_at r t) h low (not_below (dx_at r t) h limit under (beyond t inside)))

pub beyond_y : (r : RelativeMotion) (h v limit l : ℤ) (t : ℕ) → pos 0 ≤ℤ h → h ≤ℤ limit → StaysBeyond r.dy r.dvy limit l → pos t ≤ℤ l → is_within r h v t ≡ false
beyond_y r h v limit l t low under beyond inside = and_left _ _ (far_along_y (dx_at r t) (dy_at r t) h low (not_below (dy_at r t) h limit under (beyond t inside)))

pub beyond_z : (r : RelativeMotion) (h v limit l : ℤ) (t : ℕ) → v ≤ℤ limit → StaysBeyond r.dz r.dvz limit l → pos t ≤ℤ l → is_within r h v t ≡ false
beyond_z r h v limit l t under beyond inside = and_right _ _ (not_below (dz_at r t) v limit under (beyond t inside))

pub none_within_limits : OnlyThatIsFound → (a b : Motion) (set : Set) (l : ℤ) → pos 0 ≤ℤ l → look_of STCA set ≡ unsigned_abs l → ((t : ℕ) → pos t ≤ℤ l → is_within (relative a b) set.h (v_of a b set) t ≡ false) → ((t : ℕ) → pos t ≤ℤ l → is_within (relative a b) set.now_h (now_v_of a b set) t ≡ false) → stca_hit a b set ≡ None
none_within_limits only a b set l low look ahead now = no_hit a b set
    (and_left _ _ (now 0 low))
    (only (is_within (relative a b) set.h (v_of a b set)) (look_of STCA set) None (λ t inside. ahead t (omega (arith, ints))))

pub apart_x : OnlyThatIsFound → (a b : Motion) (set : Set) (limit l : ℤ) → IsSet set → l ≡ pos (look_of STCA set) → set.h ≤ℤ limit → set.now_h ≤ℤ limit → StaysBeyond (relative a b).dx (relative a b).dvx limit l → stca_hit a b set ≡ None
apart_x only a b set limit l is_set look h now_h beyond = none_within_limits only a b set l (omega (arith, ints)) (omega (arith, ints))
    (λ t inside. beyond_x (relative a b) set.h (v_of a b set) limit l t (length_limit set.h is_set.h).low h beyond inside)
    (λ t inside. beyond_x (relative a b) set.now_h (now_v_of a b set) limit l t (length_limit set.now_h is_set.now_h).low now_h beyond inside)

pub apart_y : OnlyThatIsFound → (a b : Motion) (set : Set) (limit l : ℤ) → IsSet set → l ≡ pos (look_of STCA set) → set.h ≤ℤ limit → set.now_h ≤ℤ limit → StaysBeyond (relative a b).dy (relative a b).dvy limit l → stca_hit a b set ≡ None
apart_y only a b set limit l is_set look h now_h beyond = none_within_limits only a b set l (omega (arith, ints)) (omega (arith, ints))
    (λ t inside. beyond_y (relative a b) set.h (v_of a b set) limit l t (length_limit set.h is_set.h).low h beyond inside)
    (λ t inside. beyond_y (relative a b) set.now_h (now_v_of a b set) limit l t (length_limit set.now_h is_set.now_h).low now_h beyond inside)

pub apart_z : OnlyThatIsFound → (a b : Motion) (set : Set) (limit l : ℤ) → l ≡ pos (look_of STCA set) → v_of a b set ≤ℤ limit → now_v_of a b set ≤ℤ limit → StaysBeyond (relative a b).dz (relative a b).dvz limit l → stca_hit a b set ≡ None
apart_z only a b set limit l look v now_v beyond = none_within_limits only a b set l (omega (arith, ints)) (omega (arith, ints))
    (λ t inside. beyond_z (relative a b) set.h (v_of a b set) limit l t v beyond inside)
    (λ t inside. beyond_z (relative a b) set.now_h (now_v_of a b set) limit l t now_v beyond inside)

-- ---- the first tick that the search found
map_none : (found : Option ℕ) → None ≡ option_map (λ (t : ℕ). pos t) found → found ≡ None
map_none None same = refl
map_none (Some t) same = cc

pub map_some : (found : Option ℕ) (first : ℤ) → Some first ≡ option_map (λ (t : ℕ). pos t) found → (t : ℕ) × (found ≡ Some t) × (first ≡ pos t)
map_some None first same = let no : ⊥ = cc in absurd no
map_some (Some t) first same = (t, refl, cc)

pub none_ahead : (a b : Motion) (set : Set) → is_current a b set ≡ false → None ≡ option_map (λ (t : ℕ). pos t) (first_predicted a b set) → stca_hit a b set ≡ None
none_ahead a b set not_now none = no_hit a b set not_now (map_none (first_predicted a b set) none)

inside_look : (p : ℕ → Bool) (look t : ℕ) (found : Option ℕ) → Finds p look found → found ≡ Some t → t ≤ look
inside_look p look t None finds same = let no : ⊥ = cc in absurd no
inside_look p look t (Some s) first same = let equal : s ≡ t = cc in let ahead = first.ahead in omega arith

pub predicted_ahead : SearchesFind → (a b : Motion) (set : Set) (t : ℕ) → first_predicted a b set ≡ Some t → t ≤ look_of STCA set
predicted_ahead finds a b set t found = inside_look (is_within (relative a b) set.h (v_of a b set)) (look_of STCA set) t (first_predicted a b set) (finds (is_within (relative a b) set.h (v_of a b set)) (look_of STCA set)) found

-- ---- the words
current_fact : (a b : Motion) (set : Set) → is_current a b set ≡ true → IsCurrent a b set
current_fact a b set holds =
    let parts = and_parts (is_within (relative a b) set.now_h (now_v_of a b set) 0) (is_closing (relative a b)) holds in
    record { within = within_fact (relative a b) set.now_h (now_v_of a b set) 0 parts.0; closing = le_fact _ _ parts.1 }

current_true : (a b : Motion) (set : Set) → IsCurrent a b set → is_current a b set ≡ true
current_true a b set holds = and_from _ _ (within_true (relative a b) set.now_h (now_v_of a b set) 0 holds.within) (le_true _ _ holds.closing)

conflict_true : (a b : Motion) (set : Set) (t : ℕ) → IsConflict a b set t → is_within (relative a b) set.h (v_of a b set) t ≡ true
conflict_true a b set t holds = within_true (relative a b) set.h (v_of a b set) t holds.within

conflict_fact : (a b : Motion) (set : Set) (t : ℕ) → t ≤ look_of STCA set → is_within (relative a b) set.h (v_of a b set) t ≡ true → IsConflict a b set t
conflict_fact a b set t inside holds = record { ahead = inside; within = within_fact (relative a b) set.h (v_of a b set) t holds }

-- what the search over the look-ahead found
abbrev pub FoundAhead : Motion → Motion → Set → Option ℕ → Type 0
FoundAhead a b set found = Finds (is_within (relative a b) set.h (v_of a b set)) (look_of STCA set) found

abbrev pub hit_by : Motion → Motion → Set → Bool → Option ℕ → Option StcaHit
hit_by a b set now found = option_map (figures (relative a b) set now) (if now then Some 0 else found)

is_hit : (a b : Motion) (set : Set) (now : Bool) (found : Option ℕ) → is_current a b set ≡ now → FoundAhead a b set found → IsSome (hit_by a b set now found) → IsHit a b set
is_hit a b set true found holds ahead hit = inl (current_fact a b set holds)
is_hit a b set false (Some t) fails first hit = inr (t, conflict_fact a b set t first.ahead first.passes)
is_hit a b set false None fails none hit = cc

has_hit : (a b : Motion) (set : Set) (now : Bool) (found : Option ℕ) → is_current a b set ≡ now → FoundAhead a b set found → IsHit a b set → IsSome (hit_by a b set now found)
has_hit a b set true found holds ahead hit = refl
has_hit a b set false (Some t) fails first hit = refl
has_hit a b set false None fails none (inl current) = absurd (true≢false (sym (current_true a b set current) ∙ fails))
has_hit a b set false None fails none (inr (t, conflict)) = absurd (true≢false (sym (conflict_true a b set t conflict) ∙ none t conflict.ahead))

pub hit_in_words : SearchesFind → (a b : Motion) (set : Set) → (IsSome (stca_hit a b set) → IsHit a b set) × (IsHit a b set → IsSome (stca_hit a b set))
hit_in_words finds a b set =
    let ahead = finds (is_within (relative a b) set.h (v_of a b set)) (look_of STCA set) in
    (is_hit a b set (is_current a b set) (first_predicted a b set) refl ahead, has_hit a b set (is_current a b set) (first_predicted a b set) refl ahead)

first_by : (a b : Motion) (set : Set) (now : Bool) (found : Option ℕ) → is_current a b set ≡ now → FoundAhead a b set found → IfSome (hit_by a b set now found) (λ hit. IsFirst a b set hit.first)
first_by a b set true found holds ahead = record {
  current = λ current. refl;
  predicted = λ not_now. absurd (not_now (current_fact a b set holds));
}
first_by a b set false None fails none = tt
first_by a b set false (Some t) fails first = record {
  current = λ current. absurd (true≢false (sym (current_true a b set current) ∙ fails));
  predicted = λ not_now. (
    t,
    refl,
    record {
      holds = conflict_fact a b set t first.ahead first.passes;
      least = λ s conflict. elim (cases_lt s t) [
        | inl before ↦ absurd (true≢false (sym (conflict_true a b set s conflict) ∙ first.earlier s before))
        | inr later ↦ later
      ];
    },
  );
}

pub first_in_words : SearchesFind → (a b : Motion) (set : Set) → IfSome (stca_hit a b set) (λ hit. IsFirst a b set hit.first)
first_in_words finds a b set = first_by a b set (is_current a b set) (first_predicted a b set) refl (finds (is_within (relative a b) set.h (v_of a b set)) (look_of STCA set))

-- ---- the closest tick
least_step : (f : ℕ → ℕ) (last m : ℕ) (below : Bool) → IsLeastOf f last m → nat_lt (f (suc last)) (f m) ≡ below → IsLeastOf f (suc last) (cond below (suc last) m)
least_step f last m true least below = record {
  ahead = omega arith;
  least = λ s inside. elim (cases_lt s (suc last)) [
    | inl before ↦ (let h = least.least s (omega arith) in let k = ltb-true _ _ below in omega arith)
    | inr at ↦ (let same : s ≡ suc last = omega arith in rw same (omega arith))
  ];
  first = λ s before. let h = least.least s (omega arith) in let k = ltb-true _ _ below in omega arith;
}
least_step f last m false least not_below = record {
  ahead = (let h = least.ahead in omega arith);
  least = λ s inside. elim (cases_lt s (suc last)) [
    | inl before ↦ least.least s (omega arith)
    | inr at ↦ (let same : s ≡ suc last = omega arith in rw same (ltb-false _ _ not_below))
  ];
  first = least.first;
}

least_of : (f : ℕ → ℕ) (last : ℕ) → IsLeastOf f last (least_tick_of f last)
unfolding least_tick_of
least_of f zero = record {
  ahead = omega arith;
  least = λ s inside. (let same : s ≡ 0 = omega arith in rw same (omega arith));
  first = λ s before. absurd (omega arith);
}
least_of f (suc last) = least_step f last (least_tick_of f last) (nat_lt (f (suc last)) (f (least_tick_of f last))) (least_of f last) refl

closest_by : (a b : Motion) (set : Set) (now : Bool) (found : Option ℕ) → IfSome (hit_by a b set now found) (λ hit. IsClosest a b set hit.closest)
closest_by a b set true found = (least_tick_of (squared_at (relative a b)) (look_of STCA set), refl, least_of (squared_at (relative a b)) (look_of STCA set))
closest_by a b set false (Some t) = (least_tick_of (squared_at (relative a b)) (look_of STCA set), refl, least_of (squared_at (relative a b)) (look_of STCA set))
closest_by a b set false None = tt

pub closest_in_words : (a b : Motion) (set : Set) → IfSome (stca_hit a b set) (λ hit. IsClosest a b set hit.closest)
closest_in_words a b set = closest_by a b set (is_current a b set) (first_predicted a b set)
