-- What the cycles of feeds come to (this project's profile).
use Rattle.std.specs.Prelude.{List}
use Rattle.cycle_engine.specs.Cycles.{count_firsts, count_messages}
use Rattle.cycle_workers.specs.Settings.{Setting}
use Rattle.feed_reader.specs.Content.{Content}
use Rattle.feed_reader.specs.Feeds.{told_count}
use Rattle.feed_threads.specs.Reference.{cycles, tables}
use Rattle.feed_threads.specs.declared.cycles.Made.{Made}

-- how many cycles there are, how many alerts begin in them, and how many messages they have
abbrev pub made_of : Setting → List Content → Made
made_of s feeds = record {
  cycles = cycles s.site feeds;
  firsts = told_count (count_firsts s (tables s.site feeds));
  messages = told_count (count_messages s (tables s.site feeds));
}
