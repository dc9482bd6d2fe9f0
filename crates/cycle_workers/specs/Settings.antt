-- A site with its terrain (this project's profile).
use Rattle.site_types.specs.declared.site.Site.{Site}
use Rattle.terrain_file.specs.declared.terrain.Terrain.{Terrain}

-- what the nets look by: what the site file sets, and the terrain under the tracks
pub record Setting : Type 0 where
  pub site : Site
  pub terrain : Terrain

abbrev pub setting : Site → Terrain → Setting
setting site terrain = record { site = site; terrain = terrain }
