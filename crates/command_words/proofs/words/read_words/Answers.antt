use Rattle.std.proofs.Common.{◌≡◌, ◌≢◌, ◌∙◌, true, false, List, [], Option, ap, ap₂, refl, sym, subst, inl, inr, ◌∷◌}
use Rattle.std.proofs.lemmas.Result.{IfErr-weaker, IfOk-weaker}
use Rattle.clap.specs.Kinds.{HasKind, Kinds}
use Rattle.clap.specs.Values.{kind_of}
use Rattle.clap.specs.Walk.{Row, Text}
use Rattle.clap.specs.Simple.{App, HasMatchesOf, is_simple, subcommand_of, subcommand_rows_of}
use Rattle.clap.specs.Faults.{fault_of, is_simple_and_free}
use Rattle.clap.specs.declared.error.Error.{Error}
use denote.Enum.Bare.{sameb}
use Rattle.clap.specs.contracts.error.kind.ErrorKind.{the_type}
use Rattle.clap.specs.declared.error.kind.ErrorKind.{ErrorKind}
use Rattle.clap.specs.declared.error.kind.ErrorKind.TheVariants.{OutOfMemory}
use Rattle.clap.specs.declared.parser.matches.ArgMatches.{ArgMatches}
use Rattle.command_words.specs.Words.{safetynets, texts}
use Rattle.command_words.specs.Plans.{plan_of, plan_of_command, unless_refused}
use Rattle.command_words.proofs.Unplanned.{refused_is}
use Rattle.command_words.proofs.words.read_words.Goals as goal

-- the command is one of which clap says what it makes of words
simple : is_simple safetynets ≡ true
simple = refl

free : is_simple_and_free safetynets ≡ true
free = refl

-- where nothing is refused the plan is that of what was found
planned : (words : List Text) (found : ArgMatches) → fault_of safetynets words ≡ [] → HasMatchesOf safetynets words found → plan_of_command (subcommand_rows_of found) ≡ plan_of words
planned words found none matches = sym (ap₂ (λ (k : Kinds) (rows : Option (Text × List Row)). unless_refused k (plan_of_command rows)) none (sym (matches simple).1))

-- an error of another kind than memory is a refusal
refused : (kinds : Kinds) (e : Error) → HasKind kinds e → kind_of e ≢ OutOfMemory → kinds ≢ []
refused [] e h other = λ _. elim h [ inl memory ↦ other memory | inr none ↦ none ]
refused (k ∷ ks) e h other = λ is. cc

-- what clap says of a command holds of the same command
fails : (app : App) (words : List Text) → app ≡ safetynets → (is_simple_and_free app ≡ true → fault_of app words ≡ []) → fault_of safetynets words ≡ []
fails app words is kinds = let P : App → Type 0 = λ a. is_simple_and_free a ≡ true → fault_of a words ≡ [] in subst P is kinds free

finds : (app : App) (words : List Text) (found : ArgMatches) → app ≡ safetynets → HasMatchesOf app words found → HasMatchesOf safetynets words found
finds app words found is matches = let P : App → Type 0 = λ a. HasMatchesOf a words found in subst P is matches

has_kind : (app : App) (words : List Text) (e : Error) → app ≡ safetynets → (is_simple_and_free app ≡ true → HasKind (fault_of app words) e) → HasKind (fault_of safetynets words) e
has_kind app words e is kinds = let P : App → Type 0 = λ a. is_simple_and_free a ≡ true → HasKind (fault_of a words) e in subst P is kinds free

-- the comparison of two kinds
not_memory : (k : ErrorKind) → sameb the_type k OutOfMemory ≡ false → k ≢ OutOfMemory
not_memory k other is = let same : false ≡ true = sym other ∙ ap (λ (x : ErrorKind). sameb the_type x OutOfMemory) is in cc

pub returns-in-Ok-clause-plan : goal.returns-in-Ok-clause-plan
returns-in-Ok-clause-plan c =
    let words = texts c.args.words.now in
    let is = planned words c.in-Ok.found (fails _ words c.in_ok-command.ensures c.in-Ok.ensures.kinds) (finds _ words c.in-Ok.found c.in_ok-command.ensures c.in-Ok.ensures.matches) in
    IfOk-weaker c.plan_found.result _ _ (λ plan e. sym is ∙ e) c.plan_found.ensures.plan

pub returns-in-Ok-clause-fault : goal.returns-in-Ok-clause-fault
returns-in-Ok-clause-fault c =
    let words = texts c.args.words.now in
    let is = planned words c.in-Ok.found (fails _ words c.in_ok-command.ensures c.in-Ok.ensures.kinds) (finds _ words c.in-Ok.found c.in_ok-command.ensures c.in-Ok.ensures.matches) in
    IfErr-weaker c.plan_found.result _ _ (λ fault e other. sym is ∙ e other) c.plan_found.ensures.fault

pub returns-in-Err-2-clause-fault : goal.returns-in-Err-2-clause-fault
returns-in-Err-2-clause-fault c = λ _.
    let words = texts c.args.words.now in
    let other : kind_of c.in-Err.error ≢ OutOfMemory = not_memory _ (sym (ap (λ (k : ErrorKind). sameb the_type k OutOfMemory) c.kind.ensures) ∙ sym c.eq.ensures ∙ c.if-eq.false) in
    refused_is (fault_of safetynets words) (subcommand_of safetynets words) (refused _ c.in-Err.error (has_kind _ words c.in-Err.error c.in_ok-command.ensures c.in-Err.ensures.kinds) other)
