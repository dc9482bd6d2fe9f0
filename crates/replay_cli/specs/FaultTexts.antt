-- The fault texts: what is told where there is no report. Each line ends with a line feed (this project's profile).
use Rattle.std.specs.Prelude.{ℕ, List, [], ◌∷◌, codes, decimal}
use Rattle.std.specs.Fmt.{signed_decimal}
use Rattle.std.specs.List.{concat}
use Rattle.site_fields.specs.declared.fault.Field.{Field}
use Rattle.site_fields.specs.declared.fault.SiteFault.{SiteFault}
use Rattle.site_fields.specs.declared.fault.SiteFault.TheVariants as fault
use Rattle.terrain_file.specs.declared.fault.TerrainFault.{TerrainFault}
use Rattle.terrain_file.specs.declared.fault.TerrainFault.TheVariants as terrain
use Rattle.command_words.specs.Usage.{usage_text}
use Rattle.replay_cli.specs.declared.texts.Refusal.{Refusal}
use Rattle.replay_cli.specs.declared.texts.Refusal.TheVariants as of
use Rattle.replay_cli.specs.declared.texts.FaultText.{FaultText}
use Rattle.replay_cli.specs.declared.texts.FaultText.TheVariants as told

abbrev pub cannot_open : List ℕ → List ℕ
cannot_open name = concat (codes "cannot open " ∷ name ∷ codes "\n" ∷ [])

abbrev pub read_failed : List ℕ → List ℕ
read_failed name = concat (codes "read failed: " ∷ name ∷ codes "\n" ∷ [])

abbrev pub write_failed_text : List ℕ
write_failed_text = codes "write failed\n"

abbrev pub out_of_memory_text : List ℕ
out_of_memory_text = codes "out of memory\n"

-- the site's fault of this number, with what more is told of it
abbrev pub refused : ℕ → List (List ℕ) → List ℕ
refused number more = concat (codes "site refused: " ∷ decimal number ∷ more)

-- where in the site, before what more is told
abbrev pub at_field : Field → List (List ℕ) → List (List ℕ)
at_field field more = codes " field " ∷ decimal field.number ∷ codes " entry " ∷ decimal field.entry ∷ more

abbrev pub site_text : SiteFault → List ℕ
site_text fault.Syntax = refused 1 (codes "\n" ∷ [])
site_text (fault.Missing field) = refused 2 (at_field field (codes "\n" ∷ []))
site_text (fault.Kind field) = refused 3 (at_field field (codes "\n" ∷ []))
site_text (fault.Range field value) = refused 4 (at_field field (codes " value " ∷ signed_decimal value ∷ codes "\n" ∷ []))
site_text (fault.Twice field first) = refused 5 (at_field field (codes " first " ∷ decimal first ∷ codes "\n" ∷ []))
site_text (fault.NoSuchName field) = refused 6 (at_field field (codes "\n" ∷ []))
site_text fault.Long = refused 7 (codes "\n" ∷ [])
site_text fault.NoMemory = out_of_memory_text

-- two numbers that are told of a terrain's fault, each behind its words
abbrev pub terrain_refused : List ℕ → ℕ → List ℕ → ℕ → List ℕ
terrain_refused words first more second = concat (words ∷ decimal first ∷ more ∷ decimal second ∷ codes "\n" ∷ [])

abbrev pub terrain_text : TerrainFault → List ℕ
terrain_text terrain.Magic = codes "terrain refused: 1\n"
terrain_text (terrain.Cell side) = concat (codes "terrain refused: 2 side " ∷ decimal side ∷ codes "\n" ∷ [])
terrain_text (terrain.Count columns rows) = terrain_refused (codes "terrain refused: 3 columns ") columns (codes " rows ") rows
terrain_text (terrain.Size stated found) = terrain_refused (codes "terrain refused: 4 stated ") stated (codes " found ") found
terrain_text terrain.NoMemory = out_of_memory_text

-- why a file is refused
abbrev pub refusal_text : Refusal → List ℕ
refusal_text (of.Site fault) = site_text fault
refusal_text (of.Terrain fault) = terrain_text fault

abbrev pub text_of_fault : FaultText → List ℕ
text_of_fault told.Usage = usage_text
text_of_fault (told.Refused refusal) = refusal_text refusal
text_of_fault (told.CannotOpen name) = cannot_open name
text_of_fault (told.ReadFailed name) = read_failed name
text_of_fault told.WriteFailed = write_failed_text
text_of_fault told.NoMemory = out_of_memory_text
