use Rattle.std.proofs.Common.{◌≡◌, ℕ, Bool, true, false, not, cond, Option, Some, None, ap, ◌∙◌}
use Rattle.std.specs.Str.{bytes_eq}
use Rattle.site_fields.proofs.Positions.{position-map}
use Rattle.site_fields.proofs.names.Names.add.Goals as goal
use Rattle.site_fields.proofs.names.Names.add.Goals.{then-is_new, else-is_new}

-- a new name is found nowhere, and another at the first place
of_new : (any new : Bool) (first : ℕ) (r : Option ℕ) → new ≡ not any → new ≡ true → r ≡ None → r ≡ cond any (Some first) None
of_new true new first r h is given = cc
of_new false new first r h is given = given

of_old : (any new : Bool) (first index : ℕ) (r : Option ℕ) → new ≡ not any → new ≡ false → index ≡ first → r ≡ Some index → r ≡ cond any (Some first) None
of_old true new first index r h is at given = given ∙ ap Some at
of_old false new first index r h is at given = cc

pub returns-clause-earlier : goal.returns-clause-earlier
returns-clause-earlier c =
    let ks = c.self.inside.names.keys in
    let said = c.in_ok-index.ensures in
    rw (← c.self.view_is, position-map (bytes_eq c.args.name.now) (λ k. k.now) ks) (elim c.if-is_new.branch [
      | then-is_new w ↦ of_new _ _ _ _ said.added w.if-is_new.true w.result-is
      | else-is_new w ↦ of_old _ _ _ _ _ said.added w.if-is_new.false said.index w.result-is
    ])
