use Rattle.std.proofs.Common.{◌≡◌, ◌∙◌, ◌-◌, ◌^◌, ℕ, Bool, cond, true, false, codes, List, [], Option, Some, None, Result, Ok, Err, ap, refl, sym, arith, unwrap_or}
use Rattle.std.specs.Str.Parse.{ExplainsUnsignedError, HasUnsignedDigitsIfOk, ParsesUnsigned, digits_value, without_leading_plus}
use Rattle.clap.specs.Matches.{ReadsOne}
use Rattle.clap.specs.ValueTests.{is_unsigned_in}
use Rattle.clap.specs.Words.{found_of, one_text}
use Rattle.clap.specs.declared.builder.value_parser.ValueParser.TheVariants.{Unsigned}
use Rattle.clap.proofs.ValueTestLemmas.{Accepts-accepts, accepts-Accepts}
use Rattle.clap.proofs.WalkLemmas.{one_text-rows}
use Rattle.command_words.specs.Plans.{number_of}
use Rattle.command_words.proofs.values.workers.Goals as goal

parsed : (E : Type 0) (text : List ℕ) (r : Option ℕ) → ReadsOne {T = ℕ} {E = E} (ParsesUnsigned 32 10) text r → unwrap_or r 0 ≡ number_of text
parsed E text (Some n) h =
    let in_range : is_unsigned_in 0 (2 ^ 32 - 1) text ≡ true = Accepts-accepts false (Unsigned 0 (2 ^ 32 - 1)) text (h.0.0, omega (arith, h.0.1), omega arith, omega (arith, h.0.1)) in
    h.1 ∙ sym (ap (λ (b : Bool). cond b (digits_value 10 (without_leading_plus text)) 0) in_range)
parsed E text None h = go (is_unsigned_in 0 (2 ^ 32 - 1) text) (λ yes. let in_range = accepts-Accepts false (Unsigned 0 (2 ^ 32 - 1)) text yes in h.1 (in_range.0, omega (arith, in_range.3)))
  where
    go : (b : Bool) → (b ≡ true → ⊥) → 0 ≡ cond b (digits_value 10 (without_leading_plus text)) 0
    go true never = absurd (never refl)
    go false never = refl

weaker : (E : Type 0) (gives : List ℕ → Result ℕ E → Type 0) → ((text : List ℕ) (r : Result ℕ E) → gives text r → ParsesUnsigned 32 10 text r) → (text : List ℕ) (r : Option ℕ) → ReadsOne {T = ℕ} {E = E} gives text r
    → ReadsOne {T = ℕ} {E = E} (ParsesUnsigned 32 10) text r
weaker E gives parses text (Some n) h = parses text (Ok n) h
weaker E gives parses text None h = (h.0, parses text (Err h.0) h.1)

read : (E : Type 0) (gives : List ℕ → Result ℕ E → Type 0) → ((text : List ℕ) (r : Result ℕ E) → gives text r → ParsesUnsigned 32 10 text r) → (o : Option (List ℕ)) (r : Option ℕ) → (o ≡ None → r ≡ None)
    → ((text : List ℕ) → o ≡ Some text → ReadsOne {T = ℕ} {E = E} gives text r) → unwrap_or r 0 ≡ number_of (unwrap_or o [])
read E gives parses None r none value = ap (λ (x : Option ℕ). unwrap_or x 0) (none refl)
read E gives parses (Some text) r none value = parsed E text r (weaker E gives parses text r (value text refl))

pub returns : goal.returns
returns c =
    let found = found_of c.args.values.now in
    c.unwrap_or.ensures
    ∙ read _ (λ bs r. ParsesUnsigned 32 10 bs r × ExplainsUnsignedError 10 bs r × HasUnsignedDigitsIfOk bs r) (λ text r h. h.0) (one_text found (codes "workers")) c.get_one.result c.get_one.ensures.none c.get_one.ensures.value
    ∙ ap (λ (o : Option (List ℕ)). number_of (unwrap_or o [])) (one_text-rows found (codes "workers"))
