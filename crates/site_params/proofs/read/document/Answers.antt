use Rattle.std.proofs.Common.{◌≡◌, Bool, true, false, List, ℕ, Err, None, refl, sym, ◌∙◌}
use Rattle.std.specs.Str.{is_utf8, IsUtf8}
use Rattle.std.proofs.lemmas.Str.{IsUtf8-from_is_utf8, is_utf8-from_IsUtf8}
use Rattle.std.proofs.lemmas.Bool.{false≢true}
use Rattle.toml.specs.Parse.{parse_document}
use Rattle.site_fields.specs.declared.fault.SiteFault.TheVariants.{Syntax}
use Rattle.site_params.specs.Site.{document}
use Rattle.site_params.proofs.read.document.Goals as goal

pub returns-in-Ok-clause-ok : goal.returns-in-Ok-clause-ok
unfolding document
returns-in-Ok-clause-ok c = rw (is_utf8-from_IsUtf8 c.args.text.now c.in-Ok.ensures.ok.0, c.in-Ok.ensures.ok.1)

-- a text that the reader refuses
refused : (text : List ℕ) → (IsUtf8 text → parse_document text ≡ None) → document text ≡ Err Syntax
unfolding document
refused text none = by (is_utf8 text) refl
  where
    by : (b : Bool) → is_utf8 text ≡ b → document text ≡ Err Syntax
    by true h = rw (h, none (IsUtf8-from_is_utf8 text h))
    by false h = rw h

pub returns-in-Err-2-clause-fault : goal.returns-in-Err-2-clause-fault
returns-in-Err-2-clause-fault c _ = refused c.args.text.now (c.in-Err.ensures.refused (λ memory. absurd (false≢true (sym c.if-is_memory.false ∙ c.is_memory.ensures.1 memory))))
