use Rattle.std.proofs.Common.{◌≡◌, ◌∙◌, ℕ, List, [], Option, Some, None, Bor, ap, refl, codes, unwrap_or, option_map}
use Rattle.clap.specs.Words.{found_of}
use Rattle.clap.proofs.WalkLemmas.{first_value-rows}
use Rattle.command_words.proofs.values.site.Goals as goal

value_or_none : (o : Option (Bor (List ℕ))) (d s : Bor (List ℕ)) → s ≡ unwrap_or o d → d.now ≡ [] → s.now ≡ unwrap_or (option_map (λ s. s.now) o) []
value_or_none None d s is none = ap (λ (b : Bor (List ℕ)). b.now) is ∙ none
value_or_none (Some v) d s is none = ap (λ (b : Bor (List ℕ)). b.now) is

pub returns : goal.returns
returns c =
    c.new.ensures ∙ c.in_ok-from_str.ensures.ok ∙ value_or_none c.get_str.result _ c.unwrap_or-text.result c.unwrap_or-text.ensures refl
    ∙ ap (λ (o : Option (List ℕ)). unwrap_or o []) (c.get_str.ensures ∙ first_value-rows (found_of c.args.values.now) (codes "site"))
