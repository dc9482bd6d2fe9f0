-- Sets of ticks at which a fact holds, from the ends of a span.
use Rattle.std.proofs.Common.{ℤ, pos, ◌≤ℤ◌, ◌↔◌, arith}
use Rattle.std.proofs.lemmas.Int.{ints}
use Rattle.tick_sets.specs.Ticks.{Has, IsProper, AreTicksWhere}
use Rattle.tick_sets.specs.declared.Ticks.{Ticks}
use Rattle.tick_sets.specs.declared.Ticks.TheVariants.{Empty}

pub where_span : (P : ℤ → Type 0) (l first last : ℤ) (ticks : Ticks) → ((t : ℤ) → Has ticks t ↔ ((first ≤ℤ t) × (t ≤ℤ last))) → IsProper ticks → pos 0 ≤ℤ first → last ≤ℤ l → ((t : ℤ) → first ≤ℤ t → t ≤ℤ last → P t) → ((t : ℤ) → pos 0 ≤ℤ t → t ≤ℤ l → P t → (first ≤ℤ t) × (t ≤ℤ last)) → AreTicksWhere P l ticks
where_span P l first last ticks members proper low high inside outside = record {
  within = λ t h. let k : (first ≤ℤ t) × (t ≤ℤ last) = (members t).0 h in (omega (arith, ints), omega (arith, ints));
  holds = λ t h. let k : (first ≤ℤ t) × (t ≤ℤ last) = (members t).0 h in inside t k.0 k.1;
  all = λ t start end h. (members t).1 (outside t start end h);
  proper = proper;
}

pub where_none : (P : ℤ → Type 0) (l : ℤ) → ((t : ℤ) → pos 0 ≤ℤ t → t ≤ℤ l → P t → ⊥) → AreTicksWhere P l Empty
where_none P l none = record {
  within = λ t h. absurd h;
  holds = λ t h. absurd h;
  all = λ t start end h. none t start end h;
  proper = tt;
}

pub where_same : (P Q : ℤ → Type 0) (l : ℤ) (ticks : Ticks) → ((t : ℤ) → P t → Q t) → ((t : ℤ) → Q t → P t) → AreTicksWhere P l ticks → AreTicksWhere Q l ticks
where_same P Q l ticks to from h = record {
  within = h.within;
  holds = λ t k. to t (h.holds t k);
  all = λ t start end k. h.all t start end (from t k);
  proper = h.proper;
}
