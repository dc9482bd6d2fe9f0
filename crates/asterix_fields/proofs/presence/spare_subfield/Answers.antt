use Rattle.std.proofs.Common.{◌≡◌, ◌+◌, ◌*◌, ◌-◌, ◌%◌, ◌^◌, max, sym, ap, ◌∙◌, ℕ, arith}
use Rattle.std.proofs.lemmas.Nat.{one_shl}
use Rattle.asterix_fields.proofs.PresenceBits.{none_spare}
use Rattle.asterix_fields.proofs.presence.spare_subfield.Goals as goal

pub returns-then-seven_bits-count-eq0 : goal.returns-then-seven_bits-count-eq0
returns-then-seven_bits-count-eq0 c =
    let index = c.args.index in
    let from = max (7 * index + 1) (c.args.rows + 1) in
    let seven = c.seven_bits.result in
    let count = c.saturating_sub-count.result in
    let count_is : count ≡ 7 * index + 8 - from = c.saturating_sub-count.ensures ∙ ap (λ (f : ℕ). 7 * index + 8 - f) c.max-from.ensures in
    let shifted : (1 * 2 ^ count) % 2 ^ 64 ≡ 2 ^ count = one_shl count 64 (omega arith) in
    let clear : seven % 2 ^ (7 * index + 8 - from) ≡ 0 = ap (λ (e : ℕ). seven % 2 ^ e) (sym count_is) ∙ ap (λ (m : ℕ). seven % m) (sym shifted) ∙ c.if-seven_bits-count-eq0.true in
    sym (none_spare c.args.bytes.now index from seven (omega arith) c.seven_bits.ensures.value clear)
