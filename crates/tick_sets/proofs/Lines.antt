-- Where a line is at or above 0, and where multiples lie between two bounds.
use Rattle.std.proofs.Common.{◌≡◌, ℤ, pos, ◌+ℤ◌, ◌-ℤ◌, ◌*ℤ◌, neg_ℤ, ◌≤ℤ◌, ◌<ℤ◌, ◌↔◌, arith}
use Rattle.std.proofs.lemmas.Int.{ints, by_lt_z}
use Rattle.tick_sets.specs.Steps.{IsFractionBefore, IsQuotient, IsWalk, Reaches, StaysWithin}
use Rattle.tick_sets.specs.Ticks.{Has, IsProper, AreTicksWhere}
use Rattle.tick_sets.specs.declared.Ticks.{Ticks}
use Rattle.tick_sets.specs.declared.Ticks.TheVariants.{Empty}
use Rattle.tick_sets.proofs.Products.{times_le, times_ge, spread}
use Rattle.tick_sets.proofs.Where.{where_span, where_none}

-- the ends of the span that the code made
abbrev pub IsSpan : Ticks → ℤ → ℤ → Type 0
IsSpan ticks first last = (t : ℤ) → Has ticks t ↔ ((first ≤ℤ t) × (t ≤ℤ last))

abbrev pub AreAbove : ℤ → ℤ → ℤ → Ticks → Type 0
AreAbove a b l ticks = AreTicksWhere (λ t. pos 0 ≤ℤ (a *ℤ t +ℤ b)) l ticks

-- at or above 0 at both ends, or below 0 at both
both_above : (a b l t : ℤ) → pos 0 ≤ℤ b → pos 0 ≤ℤ (a *ℤ l +ℤ b) → pos 0 ≤ℤ t → t ≤ℤ l → pos 0 ≤ℤ (a *ℤ t +ℤ b)
both_above a b l t start end low high = by_lt_z a (pos 0)
    (λ down. let h = times_ge a t l (omega (arith, ints)) high in omega (arith, ints))
    (λ up. let h = times_le a (pos 0) t up low in omega (arith, ints))

both_below : (a b l t : ℤ) → b <ℤ pos 0 → (a *ℤ l +ℤ b) <ℤ pos 0 → pos 0 ≤ℤ t → t ≤ℤ l → (a *ℤ t +ℤ b) <ℤ pos 0
both_below a b l t start end low high = by_lt_z a (pos 0)
    (λ down. let h = times_ge a (pos 0) t (omega (arith, ints)) low in omega (arith, ints))
    (λ up. let h = times_le a t l up high in omega (arith, ints))

pub above_all : (a b l first last : ℤ) (ticks : Ticks) → IsSpan ticks first last → IsProper ticks → first ≡ pos 0 → last ≡ l → pos 0 ≤ℤ b → pos 0 ≤ℤ (a *ℤ l +ℤ b) → AreAbove a b l ticks
above_all a b l first last ticks members proper first_is last_is start end = where_span _ l first last ticks members proper (omega (arith, ints)) (omega (arith, ints))
    (λ t low high. both_above a b l t start end (omega (arith, ints)) (omega (arith, ints)))
    (λ t low high h. (omega (arith, ints), omega (arith, ints)))

pub above_none : (a b l : ℤ) → b <ℤ pos 0 → (a *ℤ l +ℤ b) <ℤ pos 0 → AreAbove a b l Empty
above_none a b l start end = where_none _ l (λ t low high h. let below = both_below a b l t start end low high in absurd (omega (arith, ints)))

-- a line that goes below 0 falls, and one that comes above rises
falling : (a b l : ℤ) → pos 0 ≤ℤ l → pos 0 ≤ℤ b → (a *ℤ l +ℤ b) <ℤ pos 0 → a <ℤ pos 0
falling a b l low start end = by_lt_z a (pos 0) (λ down. down) (λ up. let h = times_le a (pos 0) l up low in absurd (omega (arith, ints)))

rising : (a b l : ℤ) → pos 0 ≤ℤ l → b <ℤ pos 0 → pos 0 ≤ℤ (a *ℤ l +ℤ b) → pos 0 <ℤ a
rising a b l low start end = by_lt_z (pos 0) a (λ up. up) (λ down. let h = times_ge a (pos 0) l down low in absurd (omega (arith, ints)))

-- such a line crosses 0 at a tick before l
pub falls_before : (a b l fall from : ℤ) → fall ≡ neg_ℤ a → from ≡ b → pos 0 ≤ℤ l → pos 0 ≤ℤ b → (a *ℤ l +ℤ b) <ℤ pos 0 → IsFractionBefore from fall l
falls_before a b l fall from fall_is from_is low start end =
    let down = falling a b l low start end in
    record {
      fraction = record { dividend_low = omega (arith, ints); divisor_low = omega (arith, ints) };
      before = rw fall_is (simp spread (omega (arith, ints)));
    }

pub rises_before : (a b l rise lack : ℤ) → rise ≡ a → lack ≡ neg_ℤ b -ℤ pos 1 → pos 0 ≤ℤ l → b <ℤ pos 0 → pos 0 ≤ℤ (a *ℤ l +ℤ b) → IsFractionBefore lack rise l
rises_before a b l rise lack rise_is lack_is low start end =
    let up = rising a b l low start end in
    record {
      fraction = record { dividend_low = omega (arith, ints); divisor_low = omega (arith, ints) };
      before = rw rise_is (omega (arith, ints));
    }

-- until the quotient of the start by how much a step falls
pub above_until : (a b l fall from first last q : ℤ) (ticks : Ticks) → IsSpan ticks first last → IsProper ticks → first ≡ pos 0 → last ≡ q → fall ≡ neg_ℤ a → from ≡ b → pos 0 ≤ℤ l → pos 0 ≤ℤ b → (a *ℤ l +ℤ b) <ℤ pos 0 → IsQuotient from fall q → q <ℤ l → AreAbove a b l ticks
above_until a b l fall from first last q ticks members proper first_is last_is fall_is from_is l_low start end quotient q_high =
    let down = falling a b l l_low start end in
    let q_low = quotient.low in
    let at_q = simp spread at (rw fall_is at quotient.at_most) in
    let after_q = simp spread at (rw fall_is at quotient.next_above) in
    where_span _ l first last ticks members proper (omega (arith, ints)) (omega (arith, ints))
    (λ t low high. let h = times_ge a t q (omega (arith, ints)) (omega (arith, ints)) in omega (arith, ints))
    (λ t low high h. by_lt_z q t
    (λ late. let k = times_ge a (q +ℤ pos 1) t (omega (arith, ints)) (omega (arith, ints)) in let parts = simp spread at k in absurd (omega (arith, ints)))
    (λ early. (omega (arith, ints), omega (arith, ints))))

-- from one after the quotient of what is lacking before
pub above_from : (a b l rise lack first last q : ℤ) (ticks : Ticks) → IsSpan ticks first last → IsProper ticks → first ≡ q +ℤ pos 1 → last ≡ l → rise ≡ a → lack ≡ neg_ℤ b -ℤ pos 1 → pos 0 ≤ℤ l → b <ℤ pos 0 → pos 0 ≤ℤ (a *ℤ l +ℤ b) → IsQuotient lack rise q → q <ℤ l → AreAbove a b l ticks
above_from a b l rise lack first last q ticks members proper first_is last_is rise_is lack_is l_low start end quotient q_high =
    let up = rising a b l l_low start end in
    let q_low = quotient.low in
    let at_q = rw rise_is at quotient.at_most in
    let after_q = rw rise_is at quotient.next_above in
    where_span _ l first last ticks members proper (omega (arith, ints)) (omega (arith, ints))
    (λ t low high. let h = times_le a (q +ℤ pos 1) t (omega (arith, ints)) (omega (arith, ints)) in omega (arith, ints))
    (λ t low high h. by_lt_z q t
    (λ late. (omega (arith, ints), omega (arith, ints)))
    (λ early. let k = times_le a t q (omega (arith, ints)) early in absurd (omega (arith, ints))))

-- ---- multiples of a step between two bounds
abbrev pub AreBetween : ℤ → ℤ → ℤ → ℤ → Ticks → Type 0
AreBetween step low high l ticks = AreTicksWhere (λ t. (low ≤ℤ (step *ℤ t)) × ((step *ℤ t) ≤ℤ high)) l ticks

pub between_first_last : (step low high l first last : ℤ) (ticks : Ticks) → IsSpan ticks first last → IsProper ticks → IsWalk step l → Reaches step low l first → StaysWithin step high l last → AreBetween step low high l ticks
between_first_last step low high l first last ticks members proper walk reaches stays = where_span _ l first last ticks members proper reaches.not_before stays.not_after
    (λ t from to.
    let begun : first ≤ℤ l = (let end = stays.not_after in omega (arith, ints)) in
    let h = times_le step first t walk.low from in
    let k = times_le step t last walk.low to in
    let reached = reaches.reached begun in
    let within = stays.within (let start = reaches.not_before in omega (arith, ints)) in
    (omega (arith, ints), omega (arith, ints)))
    (λ t from to both. (
      by_lt_z t first
          (λ early. let h = times_le step t (first -ℤ pos 1) walk.low (omega (arith, ints)) in let k = reaches.below_before (omega (arith, ints)) in absurd (omega (arith, ints, both.0)))
          (λ late. late),
      by_lt_z last t
          (λ late. let h = times_le step (last +ℤ pos 1) t walk.low (omega (arith, ints)) in let k = stays.above_after (omega (arith, ints)) in absurd (omega (arith, ints, both.1)))
          (λ early. early),
    ))
