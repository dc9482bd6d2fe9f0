-- The report of a run's feeds (this project's profile).
use Rattle.std.specs.Prelude.{ℕ, List, map}
use Rattle.cycle_workers.specs.Settings.{Setting}
use Rattle.feed_reader.specs.Content.{Content, content}
use Rattle.feed_reader.specs.Counts.{feed_count}
use Rattle.feed_reader.specs.declared.counts.FeedCount.{FeedCount}
use Rattle.feed_reader.specs.declared.counts.Report.{Report}
use Rattle.feed_threads.specs.Counts.{made_of}
use Rattle.feed_threads.specs.declared.cycles.Made.{Made}

-- the report of feeds whose cycles come to this
abbrev pub report_by : List FeedCount → Made → Report
report_by feeds made = record { cycles = made.cycles; feeds = feeds; firsts = made.firsts; messages = made.messages }

abbrev pub report_in : Setting → List Content → Report
report_in s feeds = report_by (map feed_count feeds) (made_of s feeds)

abbrev pub report_of : Setting → List (List ℕ) → Report
report_of s feeds = report_in s (map content feeds)
