-- What an engine keeps of all cycles so far (this project's profile).
use Rattle.std.specs.Prelude.{◌≡◌, ℕ, List, [], length}
use Rattle.alert_states.specs.Held as books
use Rattle.alert_states.specs.declared.event.Hit.{Hit}
use Rattle.cat004_write.specs.Blocks.{Packing, Packs}
use Rattle.site_types.specs.declared.site.Site.{Site}
use Rattle.track_table.specs.declared.table.Frozen.{Frozen}
use Rattle.track_table.specs.Proper.{IsProper}
use Rattle.track_table.specs.Times.{cycle_time}
use Rattle.cycle_workers.specs.Settings.{Setting}
use Rattle.cycle_engine.specs.Cycles.{hits_in}

-- the site with its terrain, the book of alerts, and the number of the next cycle
pub record Held : Type 0 where
  pub setting : Setting
  pub book : books.Held
  pub next : ℕ

-- the tables, the newest first, of whose cycles an engine keeps what it holds
pub record StandsFor (held : Held) (tables : List Frozen) : Type 0 where
  pub confirm : held.book.confirm ≡ held.setting.site.confirm
  pub book : books.StandsFor held.book (hits_in held.setting tables)
  pub next : held.next ≡ length tables

-- the table of a site's cycle: proper, and at the cycle's time
pub record IsTableOf (site : Site) (number : ℕ) (table : Frozen) : Type 0 where
  pub cycle : table.cycle ≡ number
  pub time : table.time ≡ cycle_time site.start site.period number
  pub proper : IsProper table

-- a book of some cycles
pub record HasPast (book : books.Held) : Type 0 where
  pub past : List (List Hit)
  pub stands : books.StandsFor book past

-- an engine between cycles: with a book of some cycles, and with no message left over
pub record IsReady (site : Site) (book : books.Held) (blocks : Packing) : Type 0 where
  pub confirm : book.confirm ≡ site.confirm
  pub some : HasPast book
  pub packed : Packs blocks []
