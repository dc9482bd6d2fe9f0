-- What is counted of a feed (this project's profile).
use Rattle.std.specs.Prelude.{count_by, length, take}
use Rattle.cat062_read.specs.Tracks.{is_usable}
use Rattle.feed_reader.specs.Content.{Content}
use Rattle.feed_reader.specs.declared.counts.FeedCount.{FeedCount}
use Rattle.feed_reader.specs.declared.counts.TheConstants.{MOST_REFUSALS}

-- its blocks, its records and how many of them tell a track, the first of its refusals, and how it ends
abbrev pub feed_count : Content → FeedCount
feed_count found = record {
  blocks = found.blocks;
  passed = found.passed;
  records = length found.records;
  tracks = count_by is_usable found.records;
  refused = take MOST_REFUSALS found.refused;
  refusals = length found.refused;
  end = found.end;
}
