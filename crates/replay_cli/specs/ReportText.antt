-- The text of a report, line by line; each line ends with a line feed (this project's profile).
use Rattle.std.specs.Prelude.{ℕ, ◌-◌, ◌==◌, List, [], ◌∷◌, ◌++◌, codes, decimal, length, take, if◌then◌else◌}
use Rattle.std.specs.List.{concat, enumerate_from, flat_map}
use Rattle.asterix_blocks.specs.declared.blocks.End.{End}
use Rattle.asterix_blocks.specs.declared.blocks.End.TheVariants.{Clean, Truncated, BadLength}
use Rattle.asterix_fields.specs.declared.fault.ItemFault.{ItemFault}
use Rattle.asterix_fields.specs.declared.fault.ItemFault.TheVariants.{LongFspec, PastEnd, SpareItem, SpareSubfield, ZeroLength}
use Rattle.cat062_read.specs.declared.body.Refused.{Refused}
use Rattle.feed_reader.specs.declared.counts.FeedCount.{FeedCount}
use Rattle.feed_reader.specs.declared.counts.Report.{Report}
use Rattle.feed_reader.specs.declared.counts.TheConstants.{MOST_REFUSALS}

-- how a feed ends
abbrev pub end_text : End → List ℕ
end_text Clean = codes "clean"
end_text (Truncated offset) = codes "truncated at " ++ decimal offset
end_text (BadLength offset) = codes "bad length at " ++ decimal offset

-- the number of a fault, and what more is told of it
abbrev pub fault_text : ItemFault → List ℕ
fault_text LongFspec = codes "1"
fault_text (PastEnd item) = codes "2 item " ++ decimal item
fault_text (SpareItem item) = codes "3 item " ++ decimal item
fault_text (SpareSubfield item subfield) = codes "4 item " ++ decimal item ++ codes " subfield " ++ decimal subfield
fault_text (ZeroLength item) = codes "5 item " ++ decimal item

-- the line of a number
abbrev pub number_line : List ℕ → ℕ → List ℕ
number_line name number = concat (name ∷ codes " " ∷ decimal number ∷ codes "\n" ∷ [])

-- the line of a feed
abbrev pub feed_line : ℕ → FeedCount → List ℕ
feed_line feed count = concat (codes "feed " ∷ decimal feed ∷ codes " blocks " ∷ decimal count.blocks ∷ codes " passed " ∷ decimal count.passed ∷ codes " records "
    ∷ decimal count.records ∷ codes " tracks " ∷ decimal count.tracks ∷ codes " end " ∷ end_text count.end ∷ codes "\n" ∷ [])

-- the line of a refusal
abbrev pub refusal_line : ℕ → Refused → List ℕ
refusal_line feed refused = concat (codes "refused feed " ∷ decimal feed ∷ codes " at " ∷ decimal refused.offset ∷ codes " fault " ∷ fault_text refused.fault ∷ codes "\n" ∷ [])

-- the first refusals of a feed
abbrev pub printed : FeedCount → List Refused
printed count = take MOST_REFUSALS count.refused

-- the line of the other refusals, where there are any
abbrev pub more_line : ℕ → ℕ → List ℕ
more_line feed more = if more == 0 then [] else concat (codes "refused feed " ∷ decimal feed ∷ codes " more " ∷ decimal more ∷ codes "\n" ∷ [])

-- the lines of a feed
abbrev pub feed_lines : ℕ → FeedCount → List ℕ
feed_lines feed count = feed_line feed count ++ flat_map (refusal_line feed) (printed count) ++ more_line feed (count.refusals - length (printed count))

-- the lines of all feeds, which are numbered from 0
abbrev pub feeds_lines : List FeedCount → List ℕ
feeds_lines feeds = flat_map (λ entry. feed_lines entry.0 entry.1) (enumerate_from 0 feeds)

-- the whole
abbrev pub text_of : Report → List ℕ
text_of report = number_line (codes "cycles") report.cycles ++ feeds_lines report.feeds ++ number_line (codes "alerts") report.firsts ++ number_line (codes "messages") report.messages
