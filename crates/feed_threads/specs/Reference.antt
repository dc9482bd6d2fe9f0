-- The alert bytes of feeds: the plain reference, which examines every pair of every cycle (this project's profile).
use Rattle.std.specs.Prelude.{ℕ, List, map}
use Rattle.std.specs.List.{enumerate_from, filter_map, flat_map}
use Rattle.cat062_read.specs.Tracks.{track_of}
use Rattle.cat062_read.specs.declared.record.Raw062.{Raw062}
use Rattle.cycle_engine.specs.Cycles as all
use Rattle.cycle_workers.specs.Settings.{Setting}
use Rattle.track_motion.specs.declared.rank.Stamped.{Stamped}
use Rattle.track_motion.specs.declared.track.Track.{Track}
use Rattle.track_table.specs.Cycles.{cycles_of, tables_of}
use Rattle.track_table.specs.Stamps.{stamps_of}
use Rattle.track_table.specs.declared.table.Frozen.{Frozen}
use Rattle.feed_reader.specs.Content.{Content, content}
use Rattle.site_types.specs.declared.site.Site.{Site}

-- the tracks of the usable records
abbrev pub tracks_of : Site → List Raw062 → List Track
tracks_of site raws = filter_map (λ raw. track_of raw site.qnh) raws

abbrev pub tracks : Site → Content → List Track
tracks site feed = tracks_of site feed.records

-- when the tracks of the feed of this number were told, and in which cycles
abbrev pub stamps_told : Site → ℕ → List Raw062 → List Stamped
stamps_told site feed raws = stamps_of site.start site.period feed (tracks_of site raws)

-- those of all feeds, which are numbered from 0
abbrev pub stamps : Site → List Content → List Stamped
stamps site feeds = flat_map (λ feed. stamps_told site feed.0 feed.1.records) (enumerate_from 0 feeds)

-- how many cycles are made of them
abbrev pub cycles : Site → List Content → ℕ
cycles site feeds = cycles_of (stamps site feeds)

-- the tables of all cycles
abbrev pub tables : Site → List Content → List Frozen
tables site feeds = tables_of site.start site.period site.timeout (stamps site feeds) (cycles site feeds)

-- the alert bytes of all cycles
abbrev pub alerts : Setting → List Content → List ℕ
alerts s feeds = all.alerts s (tables s.site feeds)

abbrev pub reference : Setting → List (List ℕ) → List ℕ
reference s feeds = alerts s (map content feeds)

-- how many pairs are examined in all cycles
abbrev pub examined : Site → List Content → ℕ
examined site feeds = all.count_all_examined site (tables site feeds)
