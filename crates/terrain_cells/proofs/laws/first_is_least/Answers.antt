use Rattle.std.proofs.Common.{pos}
use Rattle.site_types.specs.Looks.{look_of}
use Rattle.terrain_cells.specs.Msaw.{is_too_low_at}
use Rattle.terrain_cells.proofs.Words.{first_said}
use Rattle.terrain_cells.proofs.laws.first_is_least.Goals as goal

pub returns : goal.returns
returns c = first_said (λ m terrain set. c.searches_find_the_first.ensures.finds (λ t. is_too_low_at m terrain (pos t)) (look_of 1 set))
