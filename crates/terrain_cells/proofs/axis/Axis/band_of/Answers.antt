use Rattle.std.proofs.Common.{refl, ◌^◌, ◌≤◌, unsigned_abs, arith}
use Rattle.terrain_cells.proofs.Fits.{as_is}
use Rattle.terrain_cells.proofs.SameBand.{band_behind, band_inside}
use Rattle.terrain_cells.proofs.axis.Axis.band_of.Goals as goal

pub returns-then-index-self : goal.returns-then-index-self
returns-then-index-self c =
    let near : unsigned_abs c.args.place ≤ 2 ^ 33 = c.requires in
    let low = as_is c.border.result (let small = c.border.ensures.near in omega arith) in
    let high = as_is c.border-then-index-self.result (let small = c.border-then-index-self.ensures.near in omega arith) in
    rw (low, high) (band_inside c.args.self.now c.args.place c.border.result c.border-then-index-self.result c.cells_before-index.result
    c.border.ensures.border c.border-then-index-self.ensures.border c.border.ensures.near c.border-then-index-self.ensures.near c.if-index-self.true
    (rw (as_is c.args.place (omega arith)) at c.cells_before-index.ensures.from) (rw (as_is c.args.place (omega arith)) at (c.cells_before-index.ensures.before c.if-index-self.true)))

pub returns-else-index-self : goal.returns-else-index-self
returns-else-index-self c =
    let near : unsigned_abs c.args.place ≤ 2 ^ 33 = c.requires in
    let low = as_is c.border-else-index-self.result (let small = c.border-else-index-self.ensures.near in omega arith) in
    rw low (band_behind c.args.self.now c.args.place c.border-else-index-self.result _ c.cells_before-index.result
    c.border-else-index-self.ensures.border refl c.border-else-index-self.ensures.near c.cells_before-index.ensures.few c.if-index-self.false
    (rw (as_is c.args.place (omega arith)) at c.cells_before-index.ensures.from) near)
