-- What a run finds: what its words ask for, and what the world tells of the names in them (this project's profile).
use Rattle.std.specs.Prelude.{ℕ, ◌+◌, List, Option, find, is_none, take, ◌≡◌, map, Some, None, ⊤, ◌⊎◌, Result, Ok, Err, Contains, ◌∷◌}
use Rattle.std.specs.Option.{option_map}
use Rattle.outside_io.specs.Names.{bytes_of}
use Rattle.feed_reader.specs.Content.{feed_of, Content, content}
use Rattle.terrain_file.specs.declared.read.TheConstants.{TERRAIN_ROOM}
use Rattle.std.specs.List.{filter_map}
use Rattle.site_types.specs.declared.site.Site.{Site}
use Rattle.site_fields.specs.Kinds.{Reading}
use Rattle.site_params.specs.Site.{site_of_text}
use Rattle.terrain_file.specs.Terrain.{no_terrain, terrain_of}
use Rattle.terrain_file.specs.declared.fault.TerrainFault.{TerrainFault}
use Rattle.terrain_file.specs.declared.terrain.Terrain.{Terrain}
use Rattle.replay_cli.specs.declared.texts.Refusal.{Refusal}
use Rattle.cycle_workers.specs.Settings.{Setting, setting}
use Rattle.command_words.specs.Plans.{plan_of}
use Rattle.replay_cli.specs.declared.request.Request.{Request}
use Rattle.command_words.specs.declared.plan.Plan.{Plan}
use Rattle.command_words.specs.declared.plan.Plan.TheVariants.{Replay, Run}
use Rattle.command_words.specs.declared.plan.WordsFault.{WordsFault}
use Rattle.replay_cli.specs.declared.texts.Refusal.TheVariants as of

-- names with their bytes
abbrev pub Files : Type 0
Files = List (List ℕ × List ℕ)

-- the bytes that are read of a terrain file: one more than it may have
abbrev pub terrain_read : List ℕ → List ℕ
terrain_read bytes = take (TERRAIN_ROOM + 1) bytes

-- the bytes that are read under a name
abbrev pub read_of : Files → List ℕ → Option (List ℕ)
read_of files name = option_map feed_of (bytes_of name files)

-- the first of the names that is lacking
abbrev pub first_lacking : Files → List (List ℕ) → Option (List ℕ)
first_lacking files names = find (λ name. is_none (bytes_of name files)) names

-- this is the content of the bytes under the name
abbrev pub ReadsNamed : Option Files → List ℕ → Content → Type 0
ReadsNamed None name input = ⊤
ReadsNamed (Some files) name input = (bytes : List ℕ) × (bytes_of name files ≡ Some bytes) × (input ≡ content (feed_of bytes))

-- these are the contents of the bytes under the names, none of which is lacking
abbrev pub ReadsEach : Option Files → List (List ℕ) → List Content → Type 0
ReadsEach None names inputs = ⊤
ReadsEach (Some files) names inputs = (first_lacking files names ≡ None) × (inputs ≡ map content (filter_map (read_of files) names))

-- this is the text under the name, or as much of it as is read
abbrev pub TextOf : Option Files → List ℕ → ℕ → List ℕ → Type 0
TextOf None name most text = ⊤
TextOf (Some files) name most text = (bytes : List ℕ) × (bytes_of name files ≡ Some bytes) × (text ≡ take most bytes)

-- what the bytes under a name are, read in a way, where the world tells its names
abbrev pub IsRead : {A : Type 0} → (List ℕ → A) → Option Files → List ℕ → A → Type 0
IsRead read None name reading = ⊤
IsRead read (Some files) name reading = option_map read (bytes_of name files) ≡ Some reading

-- what they are as a site file
abbrev pub IsReading : Option Files → List ℕ → Reading Site → Type 0
IsReading files name reading = IsRead site_of_text files name reading

-- what they are as a terrain file
abbrev pub IsTerrainReading : Option Files → List ℕ → Result Terrain TerrainFault → Type 0
IsTerrainReading files name reading = IsRead (λ bytes. terrain_of (terrain_read bytes)) files name reading

-- this is the terrain under a site: that of the file that it names, or the one without a cell
abbrev pub IsGround : Option Files → Option (List ℕ) → Terrain → Type 0
IsGround files None terrain = terrain ≡ no_terrain
IsGround files (Some name) terrain = IsTerrainReading files name (Ok terrain)

-- what the plan of the words asks to be replayed: other plans ask for nothing here
abbrev pub request_of : Result Plan WordsFault → Option Request
request_of (Ok (Replay site feeds)) = Some (record { site = site; feeds = feeds })
request_of (Ok (Run site workers feeds)) = None
request_of (Err fault) = None

unfoldable pub request : List (List ℕ) → Option Request
request words = request_of (plan_of words)

-- what a run finds, the first of these in the order in which it looks
pub data Found : Type 0 where
  -- the words ask for nothing that is done here
  OtherWords : Found
  -- the world doesn't tell its names
  Untold : Found
  -- the world lacks this name
  Lacking : List ℕ → Found
  -- the site file or the terrain file is refused
  Refused : Refusal → Found
  -- the site with its terrain, and what is read of each feed
  Given : Setting → List (List ℕ) → Found

-- under an accepted site with its terrain
abbrev pub found_unless : Option (List ℕ) → Setting → List (List ℕ) → Found
found_unless (Some name) s feeds = Lacking name
found_unless None s feeds = Given s feeds

abbrev pub found_feeds : Files → Setting → List (List ℕ) → Found
found_feeds files s names = found_unless (first_lacking files names) s (filter_map (read_of files) names)

-- under an accepted site, by what the terrain's file is
abbrev pub found_terrain : Files → Site → List (List ℕ) → List ℕ → Option (Result Terrain TerrainFault) → Found
found_terrain files site names name None = Lacking name
found_terrain files site names name (Some (Err fault)) = Refused (of.Terrain fault)
found_terrain files site names name (Some (Ok terrain)) = found_feeds files (setting site terrain) names

-- by the name of the terrain that the site gives
abbrev pub found_ground : Files → Site → List (List ℕ) → Option (List ℕ) → Found
found_ground files site names None = found_feeds files (setting site no_terrain) names
found_ground files site names (Some name) = found_terrain files site names name (option_map (λ bytes. terrain_of (terrain_read bytes)) (bytes_of name files))

-- by what the site's file is
abbrev pub found_site : Files → Request → Option (Reading Site) → Found
found_site files r None = Lacking r.site
found_site files r (Some (Err fault)) = Refused (of.Site fault)
found_site files r (Some (Ok site)) = found_ground files site r.feeds site.terrain

abbrev pub found_names : Option Files → Request → Found
found_names None r = Untold
found_names (Some files) r = found_site files r (option_map site_of_text (bytes_of r.site files))

abbrev pub found_of : Option Files → Option Request → Found
found_of files None = OtherWords
found_of files (Some r) = found_names files r

abbrev pub found : Option Files → List (List ℕ) → Found
found files words = found_of files (request words)

-- a name that the words give, or the accepted site under the first of them
abbrev pub IsNamed : Option Files → Option Request → List ℕ → Type 0
IsNamed files None name = ⊥
IsNamed files (Some r) name = Contains (r.site ∷ r.feeds) name ⊎ ((site : Site) × IsReading files r.site (Ok site) × (site.terrain ≡ Some name))

-- what holds of the site with its terrain and of the feeds, where these are told
abbrev pub IfGiven : Found → (Setting → List (List ℕ) → Type 0) → Type 0
IfGiven (Given s feeds) P = P s feeds
IfGiven OtherWords P = Unit {0}
IfGiven Untold P = Unit {0}
IfGiven (Lacking name) P = Unit {0}
IfGiven (Refused refusal) P = Unit {0}

-- a name is lacking
abbrev pub IsLacking : Found → Type 0
IsLacking (Lacking name) = Unit {0}
IsLacking OtherWords = ⊥
IsLacking Untold = ⊥
IsLacking (Refused refusal) = ⊥
IsLacking (Given s feeds) = ⊥
