use Rattle.std.proofs.Common.{length}
use Rattle.asterix_fields.specs.Spelling.{places}
use Rattle.asterix_fields.proofs.RecordLaws.{record_takes, record_again, items_of_record}
use Rattle.asterix_fields.proofs.FirstFaultLaws.{record_breaks}
use Rattle.asterix_fields.proofs.laws.read_as_spelled.Goals as goal

pub returns : goal.returns
returns c = λ uap subs good. record {
  found = λ bytes read e. record_takes uap subs bytes read good e;
  again = λ text rest items spelled. (places (length spelled.presence) items, record_again uap subs text rest items good spelled, items_of_record uap subs text rest items spelled);
  refused = λ bytes fault e. record_breaks uap subs bytes fault good e;
}
