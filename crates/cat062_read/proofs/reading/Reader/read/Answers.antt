use Rattle.std.proofs.Common.{◌≡◌, ℕ, List, Ok, refl, ap, sym, ◌∙◌}
use Rattle.std.proofs.lemmas.Result.{err_from_is_err_and}
use Rattle.asterix_fields.specs.Spelling.{texts_at}
use Rattle.cat062_read.specs.declared.record.Raw062.{Raw062}
use Rattle.cat062_read.specs.Contents.{contents, item, acceleration, barometric, code, is_ended, is_simulated, is_tentative, number, position, signed, source, speed, time, wgs}
use Rattle.cat062_read.specs.Records.{reading}
use Rattle.cat062_read.proofs.Readings.{walk_is, walk_fails}
use Rattle.cat062_read.proofs.reading.Reader.read.Goals as goal

pub returns-in_err-length-clause-reading : goal.returns-in_err-length-clause-reading
returns-in_err-length-clause-reading c =
    let p = err_from_is_err_and c.from_residual.result c.from_residual.ensures.1 in
    rw (p.1, p.2) (sym (walk_fails c.args.bytes.now c.in_err-length.field-0.0 (rw (c.self.invariant.0, c.self.invariant.1) at c.in_err-length.ensures.fault)))

-- the fields that were read are the contents of the items
is_read : (c : goal.After-signed-2) → reading c.args.bytes.now ≡ Ok ((let raw : Raw062 = record { source = c.source.result; time = c.time.result; wgs = c.wgs.result; xy = c.position.result; speed = c.speed.result; accel = c.acceleration.result; code = c.code.result; number = c.number.result; tentative = c.is_tentative.result; simulated = c.is_simulated.result; ended = c.is_ended.result; flight_level = c.signed.result; baro = c.barometric.result; rate = c.signed-2.result } in raw), c.in_ok-length.length)
is_read c =
    let texts : List (List ℕ) = texts_at c.args.bytes.now c.find_items.new.spans in
    let source_is : c.source.result ≡ source (item texts 1) = c.source.ensures ∙ ap source c.text_of.ensures in
    let time_is : c.time.result ≡ time (item texts 4) = c.time.ensures ∙ ap time c.text_of-2.ensures in
    let wgs_is : c.wgs.result ≡ wgs (item texts 5) = c.wgs.ensures ∙ ap wgs c.text_of-3.ensures in
    let xy_is : c.position.result ≡ position (item texts 6) = c.position.ensures.value ∙ ap position c.text_of-4.ensures in
    let speed_is : c.speed.result ≡ speed (item texts 7) = c.speed.ensures ∙ ap speed c.text_of-5.ensures in
    let accel_is : c.acceleration.result ≡ acceleration (item texts 8) = c.acceleration.ensures ∙ ap acceleration c.text_of-6.ensures in
    let code_is : c.code.result ≡ code (item texts 9) = c.code.ensures ∙ ap code c.text_of-7.ensures in
    let number_is : c.number.result ≡ number (item texts 12) = c.number.ensures ∙ ap number c.text_of-8.ensures in
    let tentative_is : c.is_tentative.result ≡ is_tentative (item texts 13) = c.is_tentative.ensures ∙ ap is_tentative c.text_of-9.ensures in
    let simulated_is : c.is_simulated.result ≡ is_simulated (item texts 13) = c.is_simulated.ensures ∙ ap is_simulated c.text_of-10.ensures in
    let ended_is : c.is_ended.result ≡ is_ended (item texts 13) = c.is_ended.ensures ∙ ap is_ended c.text_of-11.ensures in
    let flight_level_is : c.signed.result ≡ signed (item texts 17) = c.signed.ensures ∙ ap signed c.text_of-12.ensures in
    let baro_is : c.barometric.result ≡ barometric (item texts 19) = c.barometric.ensures ∙ ap barometric c.text_of-13.ensures in
    let rate_is : c.signed-2.result ≡ signed (item texts 20) = c.signed-2.ensures ∙ ap signed c.text_of-14.ensures in
    let same : (let raw : Raw062 = record { source = c.source.result; time = c.time.result; wgs = c.wgs.result; xy = c.position.result; speed = c.speed.result; accel = c.acceleration.result; code = c.code.result; number = c.number.result; tentative = c.is_tentative.result; simulated = c.is_simulated.result; ended = c.is_ended.result; flight_level = c.signed.result; baro = c.barometric.result; rate = c.signed-2.result } in raw) ≡ contents texts = rw (source_is, time_is, wgs_is, xy_is, speed_is, accel_is, code_is, number_is, tentative_is, simulated_is, ended_is, flight_level_is, baro_is, rate_is) refl in
    walk_is c.read_as_spelled.ensures c.args.bytes.now c.find_items.new.spans c.in_ok-length.length (rw (c.self.invariant.0, c.self.invariant.1) at c.in_ok-length.ensures.spelled) ∙ ap (λ (raw : Raw062). Ok (raw, c.in_ok-length.length)) (sym same)

pub returns-clause-reading : goal.returns-clause-reading
returns-clause-reading c = sym (is_read c)
