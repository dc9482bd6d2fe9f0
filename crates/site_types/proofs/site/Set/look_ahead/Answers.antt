use Rattle.std.proofs.Common.{◌≡◌, ℕ, ◌<◌, pos, length, slice_index_or, ◌∙◌, arith, rules, w64, to_z, of_z}
use Rattle.std.proofs.lemmas.Int.{ints, to_z-of_z, fits_signed_from_abs}
use Rattle.std.proofs.lemmas.Option.{unwrap_or-slice_get}
use Rattle.tick_sets.specs.Inequalities.{IsLook}
use Rattle.site_types.specs.Looks.{look_of}
use Rattle.site_types.specs.Ranges.{IsSet}
use Rattle.site_types.specs.declared.site.Set.{Set}
use Rattle.site_types.proofs.site.Set.look_ahead.Goals as goal

look_in : (set : Set) (net : ℕ) → net < length set.look → IsSet set → IsLook (slice_index_or set.look net (pos 0))
look_in set net some is_set =
    let look = is_set.look net (pos 0) some in
    let low = look.low in
    let high = look.high in
    record { low = omega (arith, ints); high = omega (arith, ints) }

kept : (set : Set) (net : ℕ) → net < length set.look → IsSet set → to_z w64 (of_z w64 (slice_index_or set.look net (pos 0))) ≡ slice_index_or set.look net (pos 0)
kept set net some is_set =
    let inside = look_in set net some is_set in
    let low = inside.low in
    let high = inside.high in
    to_z-of_z w64 (slice_index_or set.look net (pos 0)) (fits_signed_from_abs w64 _ (omega (arith, ints)))

look_is : (set : Set) (net : ℕ) → net < length set.look → IsSet set → slice_index_or set.look net (pos 0) ≡ pos (look_of net set)
look_is set net some is_set = let low = (look_in set net some is_set).low in rw (unwrap_or-slice_get set.look net (pos 0)) (omega (arith, ints))

pub returns-clause-look : goal.returns-clause-look
returns-clause-look c =
    let some : c.place.result < length c.args.self.now.look = search rules in
    rw (← c.place.ensures.value) (kept c.args.self.now c.place.result some c.requires ∙ look_is c.args.self.now c.place.result some c.requires)

pub returns-clause-range : goal.returns-clause-range
returns-clause-range c =
    let some : c.place.result < length c.args.self.now.look = search rules in
    rw (kept c.args.self.now c.place.result some c.requires) (look_in c.args.self.now c.place.result some c.requires)
