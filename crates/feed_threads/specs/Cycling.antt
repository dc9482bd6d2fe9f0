-- Which stamps the cycles put into the table, one cycle after the other (this project's profile).
use Rattle.std.specs.Prelude.{ℕ, ◌+◌, List, [], ◌∷◌, map, nat_le, if◌then◌else◌}
use Rattle.std.specs.List.{enumerate_from, flat_map}
use Rattle.track_motion.specs.declared.rank.Stamped.{Stamped}
use Rattle.site_types.specs.declared.site.Site.{Site}
use Rattle.cycle_engine.specs.declared.engine.CycleDone.{CycleDone}
use Rattle.feed_threads.specs.declared.cycles.Made.{Made}
use Rattle.feed_reader.specs.Content.{Content}
use Rattle.feed_reader.specs.Feeds.{told_count}
use Rattle.feed_threads.specs.Reference.{stamps_told}

-- the stamps of each feed, which are numbered from 0
abbrev pub stamps_each : Site → List Content → List (List Stamped)
stamps_each site feeds = map (λ feed. stamps_told site feed.0 feed.1.records) (enumerate_from 0 feeds)

-- the stamps at the front that were told by the end of a cycle, and the others
abbrev pub due_front : ℕ → List Stamped → List Stamped
due_front cycle [] = []
due_front cycle (s ∷ others) = if nat_le s.window cycle then s ∷ due_front cycle others else []

abbrev pub behind_due : ℕ → List Stamped → List Stamped
behind_due cycle [] = []
behind_due cycle (s ∷ others) = if nat_le s.window cycle then behind_due cycle others else s ∷ others

-- those of all feeds
abbrev pub due_fronts : ℕ → List (List Stamped) → List Stamped
due_fronts cycle feeds = flat_map (due_front cycle) feeds

-- what the cycles came to with one more; counts stop at their last value
abbrev pub made_with : Made → CycleDone → Made
made_with made done = record { cycles = told_count (made.cycles + 1); firsts = told_count (made.firsts + done.firsts); messages = told_count (made.messages + done.messages) }
