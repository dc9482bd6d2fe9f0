-- What the nets have ready (this project's profile).
use Rattle.std.specs.Prelude.{◌≡◌, List}
use Rattle.site_types.specs.Ranges.{IsSite}
use Rattle.site_types.specs.declared.airspace.Volume.{Volume}
use Rattle.site_types.specs.declared.funnel.Funnel.{Funnel}
use Rattle.site_types.specs.declared.site.Site.{Site}
use Rattle.terrain_file.specs.Ranges.{IsTerrain}
use Rattle.terrain_file.specs.declared.terrain.Terrain.{Terrain}

-- a terrain and a site in range, and the site's volumes and funnels
pub record AreReady (site : Site) (terrain : Terrain) (areas : List Volume) (approaches : List Funnel) : Type 0 where
  pub accepted : IsSite site
  pub range : IsTerrain terrain
  pub volumes : areas ≡ site.volumes
  pub funnels : approaches ≡ site.funnels
