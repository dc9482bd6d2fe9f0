use Rattle.std.proofs.Common.{◌++◌, not, List, [], ◌∷◌, ap, sym, ◌∙◌}
use Rattle.asterix_blocks.specs.declared.blocks.Block.{Block}
use Rattle.cat062_read.specs.declared.body.Refused.{Refused}
use Rattle.cat062_read.specs.declared.record.Raw062.{Raw062}
use Rattle.feed_reader.specs.Content.{is_of_category, records_of, refusals_of}
use Rattle.feed_reader.specs.Feeds.{with_one, with_usable}
use Rattle.feed_reader.proofs.Read.{more, told_more, told_usable}
use Rattle.feed_reader.proofs.input.add_blocks.Goals as goal

pub loop-block-preserved : goal.loop-block-preserved
loop-block-preserved c =
    let next = rw c.in-Some.is at c.in_ok-block.ensures.given in
    record {
      told = λ fed given cuts gathers.
          let t = c.loop-block.invariant.told fed given cuts gathers in
          let block : Block = c.in-Some.block in (
            t.0 ++ block ∷ [],
            next fed t.0 t.1,
            record {
              blocks = c.in_ok-add_block.ensures.blocks ∙ ap (λ n. with_one n (is_of_category block)) t.2.blocks ∙ told_more is_of_category t.0 block;
              passed = c.in_ok-add_block.ensures.passed ∙ ap (λ n. with_one n (not (is_of_category block))) t.2.passed ∙ told_more (λ b. not (is_of_category b)) t.0 block;
              records = c.in_ok-add_block.ensures.records ∙ ap (λ (rs : List Raw062). rs ++ records_of block) t.2.records ∙ sym (more records_of t.0 block);
              usable = c.in_ok-add_block.ensures.usable ∙ ap (λ n. with_usable n block) t.2.usable ∙ told_usable t.0 block;
              refused = c.in_ok-add_block.ensures.refused ∙ ap (λ (rs : List Refused). rs ++ refusals_of block) t.2.refused ∙ sym (more refusals_of t.0 block);
            },
          );
      placed = λ before. c.in_ok-add_block.ensures.placed (c.loop-block.invariant.placed before);
    }
