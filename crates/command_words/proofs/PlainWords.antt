-- Plain words behind `--site` and `--workers` are taken as they stand.
use Rattle.std.proofs.Common.{◌≡◌, ◌≢◌, ◌∙◌, ◌<◌, ◌≤◌, ◌-◌, ◌^◌, ◌&&◌, ℕ, Bool, cond, true, false, refl, sym, ap, ap₂, subst, arith, codes, List, [], ◌∷◌, ◌++◌, Option, Some, None, Ok, pos, decimal, append_assoc, append-nil, is_some}
use Rattle.std.specs.List.{All, find, fold}
use Rattle.std.specs.Option.{option_map_or}
use Rattle.std.specs.Char.{digit_value}
use Rattle.std.specs.Str.{bytes_eq}
use Rattle.std.specs.Str.Parse.{IsNumeral, digits_value, signed_digits_value, starts_with_minus, without_leading_plus, without_leading_sign}
use Rattle.clap.specs.Lexer.{long_of, long_of_rest, short_of, short_of_rest, strip_byte, without_minus}
use Rattle.std.proofs.lemmas.Bool.{ne_eqb}
use Rattle.std.proofs.lemmas.List.Elements.{All-head, All-tail}
use Rattle.clap.specs.Walk.{Held, Names, Row, Rule, Text, Waiting, Walk, finished, idle, nothing_held, option, positional, settled, walk, walk_from, walked}
use Rattle.clap.specs.Simple.{App, Shape, built, entered, names_of, subcommand_of}
use Rattle.clap.specs.Kinds.{Kinds, or_else}
use Rattle.clap.specs.Faults.{check_fault, defaults_fault, entered_fault, fault_of, settle_fault, turn_fault, walk_fault}
use Rattle.clap.specs.Values.{IsSignedIn, IsUnsignedIn}
use Rattle.clap.specs.ValueTests.{accepts}
use Rattle.clap.proofs.ValueTestLemmas.{Accepts-accepts}
use Rattle.std.proofs.lemmas.Fmt.{decimal_is_IsNumeral}
use Rattle.std.proofs.lemmas.Int.{ints}
use Rattle.std.specs.Int.{w64}
use Rattle.std.specs.Prelude.{FitsSigned, ◌≤ℤ◌, option_and_then}
use Rattle.std.specs.Result.{result_map_both}
use Rattle.clap.specs.declared.builder.value_parser.Reading.TheVariants.{AsWritten, WithoutMinus}
use Rattle.clap.specs.declared.builder.value_parser.ValueParser.TheVariants.{Signed, Unsigned}
use Rattle.clap.specs.declared.parser.matches.ValueSource.TheVariants.{CommandLine}
use Rattle.command_words.specs.Words.{safetynets}
use Rattle.command_words.specs.Plans.{ArePlainFeeds, IsPlain, counted, number_of, plan_of, plan_of_command, replay_words, run_words, unless_refused}
use Rattle.command_words.specs.declared.plan.Plan.TheVariants.{Replay, Run}
use Rattle.command_words.proofs.Counts.{counted_few}

-- what stands before the feeds: a site, or a site and a number of workers that clap takes
pub data Front : Type 0 where
  with_site : Text → Front
  with_workers : Text → Text → Front

-- the commands, built
abbrev pub commands : App
commands = built safetynets

abbrev leaf_of : Text → Shape
leaf_of name = option_map_or (λ (s : Shape). s) (find (λ s. bytes_eq s.name name) commands.subs) commands.top

abbrev pub leaf : Front → Shape
leaf (with_site site) = leaf_of (codes "replay")
leaf (with_workers site workers) = leaf_of (codes "run")

abbrev site_row : Text → Row
site_row site = record { id = codes "site"; values = site ∷ []; count = None; source = Some CommandLine; reading = AsWritten }

abbrev workers_row : Text → Row
workers_row workers = record { id = codes "workers"; values = workers ∷ []; count = None; source = Some CommandLine; reading = WithoutMinus }

abbrev feed_row : List Text → Row
feed_row feeds = record { id = codes "feed"; values = feeds; count = None; source = Some CommandLine; reading = AsWritten }

abbrev pub front_rows : Front → List Row → List Row
front_rows (with_site site) rows = site_row site ∷ rows
front_rows (with_workers site workers) rows = site_row site ∷ workers_row workers ∷ rows

abbrev reading_feeds : List Row → Text → Walk
reading_feeds rows last = record {
  held = record { rows = rows; pending = Some (codes "feed", last ∷ []); skip = 0 };
  waiting = positional;
  position = 1;
  is_trailing = false;
  stopped = None;
}

-- behind one feed, and behind several
abbrev behind_one : Front → Text → Walk
behind_one front feed = reading_feeds (front_rows front []) feed

abbrev behind_more : Front → Text → List Text → Text → Walk
behind_more front first more last = reading_feeds (front_rows front (feed_row (first ∷ more) ∷ [])) last

-- how a plain word reads
record IsValue (word : Text) : Type 0 where
  dashes : bytes_eq word (45 ∷ 45 ∷ []) ≡ false
  long : long_of word ≡ None
  short : short_of word ≡ None

value_is : (word : Text) → IsPlain word → IsValue word
value_is [] plain = absurd plain
value_is (y ∷ ys) plain =
    let none : strip_byte 45 (y ∷ ys) ≡ None = ap (λ (b : Bool). cond b (Some ys) None) (ne_eqb y 45 plain) in
    record {
      dashes = ap (λ (b : Bool). b && bytes_eq ys (45 ∷ [])) (ne_eqb y 45 plain);
      long = ap (λ (o : Option Text). option_and_then long_of_rest (option_and_then (strip_byte 45) o)) none;
      short = ap (option_and_then short_of_rest) none;
    }

second_feed : (front : Front) (first feed : Text) → IsPlain feed → walked (leaf front).rules [] (behind_one front first) feed ≡ behind_more front first [] feed
unfolding walked
second_feed (with_site site) first word plain = let is = value_is word plain in rw (is.dashes, is.long, is.short) refl
second_feed (with_workers site workers) first word plain = let is = value_is word plain in rw (is.dashes, is.long, is.short) refl

next_feed : (front : Front) (first : Text) (more : List Text) (last feed : Text) → IsPlain feed
    → walked (leaf front).rules [] (behind_more front first more last) feed ≡ behind_more front first (more ++ last ∷ []) feed
unfolding walked
next_feed (with_site site) first more last word plain = let is = value_is word plain in rw (is.dashes, is.long, is.short) refl
next_feed (with_workers site workers) first more last word plain = let is = value_is word plain in rw (is.dashes, is.long, is.short) refl

second_passes : (front : Front) (first feed : Text) → IsPlain feed → turn_fault (leaf front) [] (behind_one front first) feed ≡ []
second_passes (with_site site) first word plain = let is = value_is word plain in rw (is.dashes, is.long, is.short) refl
second_passes (with_workers site workers) first word plain = let is = value_is word plain in rw (is.dashes, is.long, is.short) refl

next_passes : (front : Front) (first : Text) (more : List Text) (last feed : Text) → IsPlain feed → turn_fault (leaf front) [] (behind_more front first more last) feed ≡ []
next_passes (with_site site) first more last word plain = let is = value_is word plain in rw (is.dashes, is.long, is.short) refl
next_passes (with_workers site workers) first more last word plain = let is = value_is word plain in rw (is.dashes, is.long, is.short) refl

-- what is found behind the walk
abbrev end_fault : Shape → Held → Kinds
end_fault s end =
    or_else (settle_fault s.rules s.args_override_self end)
    (or_else (defaults_fault (settled s.rules end).rows s.rules) (check_fault s (finished s.rules end) false))

abbrev end_of : Front → Walk → List Text → Held
end_of front w words = (fold (walked (leaf front).rules []) w words).held

-- from here on the words are taken, and give these feeds
record Gives (front : Front) (w : Walk) (words feeds : List Text) : Type 0 where
  kinds : or_else (walk_fault (leaf front) [] w words) (end_fault (leaf front) (end_of front w words)) ≡ []
  rows : finished (leaf front).rules (end_of front w words) ≡ front_rows front (feed_row feeds ∷ [])

turn : (front : Front) (w v : Walk) (word : Text) (words feeds : List Text) → turn_fault (leaf front) [] w word ≡ [] → walked (leaf front).rules [] w word ≡ v → Gives front v words feeds
    → Gives front w (word ∷ words) feeds
unfolding walk_fault
turn front w v word words feeds passes is next = record {
  kinds =
      let behind : Walk → Kinds = λ x. end_fault (leaf front) (end_of front x words) in
      ap (λ (k : Kinds). or_else (or_else k (walk_fault (leaf front) [] (walked (leaf front).rules [] w word) words)) (behind (walked (leaf front).rules [] w word))) passes
      ∙ ap (λ (x : Walk). or_else (walk_fault (leaf front) [] x words) (behind x)) is ∙ next.kinds;
  rows = ap (λ (x : Walk). finished (leaf front).rules (end_of front x words)) is ∙ next.rows;
}

ends_one : (front : Front) (first : Text) → Gives front (behind_one front first) [] (first ∷ [])
unfolding walk_fault defaults_fault
ends_one (with_site site) first = record { kinds = refl; rows = refl }
ends_one (with_workers site workers) first = record { kinds = refl; rows = refl }

ends_more : (front : Front) (first : Text) (more : List Text) (last : Text) → Gives front (behind_more front first more last) [] (first ∷ (more ++ last ∷ []))
unfolding walk_fault defaults_fault
ends_more (with_site site) first more last = record { kinds = refl; rows = refl }
ends_more (with_workers site workers) first more last = record { kinds = refl; rows = refl }

gives_more : (front : Front) (first : Text) (more : List Text) (last : Text) (rest : List Text) → All IsPlain rest → Gives front (behind_more front first more last) rest (first ∷ (more ++ last ∷ rest))
gives_more front first more last [] plain = ends_more front first more last
gives_more front first more last (feed ∷ rest) plain =
    let here = All-head IsPlain feed rest plain in
    let joined : ◌≡◌ {A = List Text} (first ∷ ((more ++ last ∷ []) ++ feed ∷ rest)) (first ∷ (more ++ last ∷ feed ∷ rest)) = ap (λ (t : List Text). first ∷ t) (append_assoc more (last ∷ []) (feed ∷ rest)) in
    let next = gives_more front first (more ++ last ∷ []) feed rest (All-tail IsPlain feed rest plain) in
    turn front _ _ feed rest _ (next_passes front first more last feed here) (next_feed front first more last feed here)
    (subst (Gives front (behind_more front first (more ++ last ∷ []) feed) rest) joined next)

gives_one : (front : Front) (first : Text) (rest : List Text) → All IsPlain rest → Gives front (behind_one front first) rest (first ∷ rest)
gives_one front first [] plain = ends_one front first
gives_one front first (feed ∷ rest) plain =
    let here = All-head IsPlain feed rest plain in
    turn front _ _ feed rest _ (second_passes front first feed here) (second_feed front first feed here)
    (gives_more front first [] feed rest (All-tail IsPlain feed rest plain))

-- ---- the options

abbrev waiting_for : List Row → Option (Text × List Text) → Waiting → Walk
waiting_for rows pending waiting = record {
  held = record { rows = rows; pending = pending; skip = 0 };
  waiting = waiting;
  position = 1;
  is_trailing = false;
  stopped = None;
}

abbrev at_start : Walk
at_start = walk_from nothing_held

abbrev at_site : Walk
at_site = waiting_for [] (Some (codes "site", [])) (option (codes "site"))

abbrev behind_site : Text → Walk
behind_site site = waiting_for [] (Some (codes "site", site ∷ [])) idle

abbrev at_workers : Text → Walk
at_workers site = waiting_for (site_row site ∷ []) (Some (codes "workers", [])) (option (codes "workers"))

abbrev behind_workers : Text → Text → Walk
behind_workers site workers = waiting_for (site_row site ∷ []) (Some (codes "workers", workers ∷ [])) idle

-- the step to v takes the word
record Steps (front : Front) (w : Walk) (word : Text) (v : Walk) : Type 0 where
  passes : turn_fault (leaf front) [] w word ≡ []
  is : walked (leaf front).rules [] w word ≡ v

stepped : (front : Front) (w v : Walk) (word : Text) (words feeds : List Text) → Steps front w word v → Gives front v words feeds → Gives front w (word ∷ words) feeds
stepped front w v word words feeds step next = turn front w v word words feeds step.passes step.is next

site_named : (front : Front) → Steps front at_start (codes "--site") at_site
unfolding walked
site_named (with_site site) = record { passes = refl; is = refl }
site_named (with_workers site workers) = record { passes = refl; is = refl }

site_given : (front : Front) (word : Text) → IsPlain word → Steps front at_site word (behind_site word)
unfolding walked
site_given (with_site site) word plain = let is = value_is word plain in record { passes = rw (is.dashes, is.long, is.short) refl; is = rw (is.dashes, is.long, is.short) refl }
site_given (with_workers site workers) word plain = let is = value_is word plain in record { passes = rw (is.dashes, is.long, is.short) refl; is = rw (is.dashes, is.long, is.short) refl }

first_feed : (site feed : Text) → IsPlain feed → Steps (with_site site) (behind_site site) feed (behind_one (with_site site) feed)
unfolding walked
first_feed site word plain = let is = value_is word plain in record { passes = rw (is.dashes, is.long, is.short) refl; is = rw (is.dashes, is.long, is.short) refl }

workers_named : (site workers : Text) → Steps (with_workers site workers) (behind_site site) (codes "--workers") (at_workers site)
unfolding walked
workers_named site workers = record { passes = refl; is = refl }

workers_given : (site workers : Text) → IsPlain workers → Steps (with_workers site workers) (at_workers site) workers (behind_workers site workers)
unfolding walked
workers_given site word plain = let is = value_is word plain in record { passes = rw (is.dashes, is.long, is.short) refl; is = rw (is.dashes, is.long, is.short) refl }

first_run_feed : (site workers feed : Text) → accepts false (Signed (pos 1) (pos 64)) workers ≡ true → IsPlain feed
    → Steps (with_workers site workers) (behind_workers site workers) feed (behind_one (with_workers site workers) feed)
unfolding walked
first_run_feed site workers word taken plain = let is = value_is word plain in record { passes = rw (is.dashes, is.long, is.short, taken) refl; is = rw (is.dashes, is.long, is.short) refl }

-- the words behind the command's name
abbrev pub behind_name : Front → List Text → List Text
behind_name (with_site site) feeds = codes "--site" ∷ site ∷ feeds
behind_name (with_workers site workers) feeds = codes "--site" ∷ site ∷ codes "--workers" ∷ workers ∷ feeds

-- the words of the front are plain, and clap takes the number of workers
abbrev pub IsTaken : Front → Type 0
IsTaken (with_site site) = IsPlain site
IsTaken (with_workers site workers) = IsPlain site × IsPlain workers × (accepts false (Signed (pos 1) (pos 64)) workers ≡ true)

gives_all : (front : Front) (first : Text) (rest : List Text) → IsTaken front → All IsPlain (first ∷ rest) → Gives front at_start (behind_name front (first ∷ rest)) (first ∷ rest)
gives_all (with_site site) first rest taken plain =
    let front : Front = with_site site in
    stepped front _ _ _ _ _ (site_named front) (stepped front _ _ _ _ _ (site_given front site taken)
    (stepped front _ _ _ _ _ (first_feed site first (All-head IsPlain first rest plain)) (gives_one front first rest (All-tail IsPlain first rest plain))))
gives_all (with_workers site workers) first rest taken plain =
    let front : Front = with_workers site workers in
    stepped front _ _ _ _ _ (site_named front) (stepped front _ _ _ _ _ (site_given front site taken.0)
    (stepped front _ _ _ _ _ (workers_named site workers) (stepped front _ _ _ _ _ (workers_given site workers taken.1)
    (stepped front _ _ _ _ _ (first_run_feed site workers first taken.2 (All-head IsPlain first rest plain)) (gives_one front first rest (All-tail IsPlain first rest plain))))))

-- ---- the command's name

abbrev pub name_of : Front → Text
name_of (with_site site) = codes "replay"
name_of (with_workers site workers) = codes "run"

abbrev stopped_at : Text → List Text → Walk
stopped_at name words = record { held = nothing_held; waiting = idle; position = 1; is_trailing = false; stopped = Some (name, words) }

stays : (rules : List Rule) (names : Names) (name : Text) (words rest : List Text) → fold (walked rules names) (stopped_at name words) rest ≡ stopped_at name (words ++ rest)
unfolding walked
stays rules names name words [] = ap (stopped_at name) (sym (append-nil words))
stays rules names name words (word ∷ rest) = stays rules names name (words ++ word ∷ []) rest ∙ ap (stopped_at name) (append_assoc words (word ∷ []) rest)

stays_taken : (s : Shape) (names : Names) (name : Text) (words rest : List Text) → walk_fault s names (stopped_at name words) rest ≡ []
unfolding walked walk_fault
stays_taken s names name words [] = refl
stays_taken s names name words (word ∷ rest) = stays_taken s names name (words ++ word ∷ []) rest

abbrev start_of : Walk
start_of = walk_from nothing_held

named : (front : Front) → walked commands.top.rules (names_of commands) start_of (name_of front) ≡ stopped_at (name_of front) []
unfolding walked
named (with_site site) = refl
named (with_workers site workers) = refl

name_passes : (front : Front) → turn_fault commands.top (names_of commands) start_of (name_of front) ≡ []
name_passes (with_site site) = refl
name_passes (with_workers site workers) = refl

walk_is : (front : Front) (rest : List Text) → walk commands.top.rules (names_of commands) nothing_held (name_of front ∷ rest) ≡ stopped_at (name_of front) rest
walk_is front rest = ap (λ (w : Walk). fold (walked commands.top.rules (names_of commands)) w rest) (named front) ∙ stays commands.top.rules (names_of commands) (name_of front) [] rest

walk_passes : (front : Front) (rest : List Text) → walk_fault commands.top (names_of commands) start_of (name_of front ∷ rest) ≡ []
unfolding walk_fault
walk_passes front rest =
    ap (λ (k : Kinds). or_else k (walk_fault commands.top (names_of commands) (walked commands.top.rules (names_of commands) start_of (name_of front)) rest)) (name_passes front)
    ∙ ap (λ (w : Walk). walk_fault commands.top (names_of commands) w rest) (named front) ∙ stays_taken commands.top (names_of commands) (name_of front) [] rest

abbrev pub top_fault : Walk → Kinds → Kinds
top_fault w k =
    or_else k (or_else (entered_fault commands w.stopped) (or_else (settle_fault commands.top.rules commands.top.args_override_self w.held)
    (or_else (defaults_fault (settled commands.top.rules w.held).rows commands.top.rules) (check_fault commands.top (finished commands.top.rules w.held) (is_some (entered commands w.stopped))))))

fault_is : (front : Front) (rest : List Text) → fault_of safetynets (name_of front ∷ rest) ≡ top_fault (stopped_at (name_of front) rest) []
fault_is front rest = ap₂ top_fault (walk_is front rest) (walk_passes front rest)

subcommand_is : (front : Front) (rest : List Text) → subcommand_of safetynets (name_of front ∷ rest) ≡ entered commands (Some (name_of front, rest))
subcommand_is front rest = ap (λ (w : Walk). entered commands w.stopped) (walk_is front rest)

no_fault : (front : Front) (words feeds : List Text) → Gives front at_start words feeds → top_fault (stopped_at (name_of front) words) [] ≡ []
unfolding defaults_fault
no_fault (with_site site) words feeds gives = ap (λ (k : Kinds). or_else k []) gives.kinds
no_fault (with_workers site workers) words feeds gives = ap (λ (k : Kinds). or_else k []) gives.kinds

entered_is : (front : Front) (words feeds : List Text) → Gives front at_start words feeds
    → entered commands (Some (name_of front, words)) ≡ Some (name_of front, front_rows front (feed_row feeds ∷ []))
entered_is (with_site site) words feeds gives = ap (λ (rows : List Row). Some (codes "replay", rows)) gives.rows
entered_is (with_workers site workers) words feeds gives = ap (λ (rows : List Row). Some (codes "run", rows)) gives.rows

-- the plan of the words is that of what they give
pub plan_is : (front : Front) (first : Text) (rest : List Text) → IsTaken front → All IsPlain (first ∷ rest)
    → plan_of (name_of front ∷ behind_name front (first ∷ rest)) ≡ plan_of_command (Some (name_of front, front_rows front (feed_row (first ∷ rest) ∷ [])))
plan_is front first rest taken plain =
    let words = behind_name front (first ∷ rest) in
    let gives = gives_all front first rest taken plain in
    ap₂ (λ (k : Kinds) (found : Option (Text × List Row)). unless_refused k (plan_of_command found))
    (fault_is front words ∙ no_fault front words (first ∷ rest) gives)
    (subcommand_is front words ∙ entered_is front words (first ∷ rest) gives)

-- ---- the number of workers

plain_numeral : (ds : List ℕ) → IsNumeral 10 ds → IsPlain ds
plain_numeral [] h = omega (arith, h.0)
plain_numeral (d ∷ ds) h = λ e. let bad : digit_value 45 < 10 = let P : ℕ → Type 0 = λ b. digit_value b < 10 in subst P e h.1.0 in absurd (omega arith)

no_plus : (ds : List ℕ) → IsNumeral 10 ds → without_leading_plus ds ≡ ds
no_plus [] h = refl
no_plus (d ∷ ds) h =
    let ne : d ≢ 43 = λ e. let bad : digit_value 43 < 10 = let P : ℕ → Type 0 = λ b. digit_value b < 10 in subst P e h.1.0 in absurd (omega arith) in
    rw (ne_eqb d 43 ne) refl

no_minus : (ds : List ℕ) → IsPlain ds → without_minus ds ≡ ds
no_minus [] plain = absurd plain
no_minus (d ∷ ds) plain = rw (ne_eqb d 45 plain) refl

not_minus : (ds : List ℕ) → IsPlain ds → starts_with_minus ds ≡ false
not_minus [] plain = absurd plain
not_minus (d ∷ ds) plain = ne_eqb d 45 plain

-- the text of a number of workers
record IsCount (text : Text) (n : ℕ) : Type 0 where
  plain : IsPlain text
  taken : accepts false (Signed (pos 1) (pos 64)) text ≡ true
  read : number_of (without_minus text) ≡ n

count_is : (text : Text) (n : ℕ) → IsNumeral 10 text → digits_value 10 text ≡ n → 1 ≤ n → n ≤ 64 → IsCount text n
count_is text n numeral value some few =
    let plain = plain_numeral text numeral in
    let unsigned : without_leading_sign text ≡ text = rw (not_minus text plain) (no_plus text numeral) in
    let signed : signed_digits_value 10 text ≡ pos n = rw (not_minus text plain) (ap pos (ap (digits_value 10) (no_plus text numeral) ∙ value)) in
    let in_range : IsSignedIn (pos 1) (pos 64) text = (
      subst (IsNumeral 10) (sym unsigned) numeral,
      subst (FitsSigned w64) (sym signed) (record { sfits = omega arith }),
      subst (λ z. pos 1 ≤ℤ z) (sym signed) (omega (arith, ints)),
      subst (λ z. z ≤ℤ pos 64) (sym signed) (omega (arith, ints)),
    ) in
    let same : without_leading_plus (without_minus text) ≡ text = ap without_leading_plus (no_minus text plain) ∙ no_plus text numeral in
    let unsigned_in : IsUnsignedIn 0 (2 ^ 32 - 1) (without_minus text) = (
      subst (IsNumeral 10) (sym same) numeral,
      subst (λ t. digits_value 10 t < 2 ^ 64) (sym same) (omega arith),
      omega arith,
      subst (λ t. digits_value 10 t ≤ 2 ^ 32 - 1) (sym same) (omega arith),
    ) in
    record {
      plain = plain;
      taken = Accepts-accepts false (Signed (pos 1) (pos 64)) text in_range;
      read = ap (λ (b : Bool). cond b (digits_value 10 (without_leading_plus (without_minus text))) 0) (Accepts-accepts false (Unsigned 0 (2 ^ 32 - 1)) (without_minus text) unsigned_in)
          ∙ ap (digits_value 10) same ∙ value;
    }

-- ---- the plans

pub replay_plan : (site : Text) (feeds : List Text) → IsPlain site → ArePlainFeeds feeds → plan_of (replay_words site feeds) ≡ Ok (Replay site feeds)
replay_plan site [] plain are = absurd (omega (arith, are.some))
replay_plan site (first ∷ rest) plain are =
    plan_is (with_site site) first rest plain are.plain ∙ ap (result_map_both (Replay site) (λ fault. fault)) (counted_few (first ∷ rest) are.some are.few)

pub run_plan : (site : Text) (workers : ℕ) (feeds : List Text) → IsPlain site → 1 ≤ workers → workers ≤ 64 → ArePlainFeeds feeds → plan_of (run_words site workers feeds) ≡ Ok (Run site workers feeds)
run_plan site workers [] plain some few are = absurd (omega (arith, are.some))
run_plan site workers (first ∷ rest) plain some few are =
    let number = decimal_is_IsNumeral workers (omega arith) in
    let count = count_is (decimal workers) workers number.0 number.1 some few in
    plan_is (with_workers site (decimal workers)) first rest (plain, count.plain, count.taken) are.plain
    ∙ ap (λ (n : ℕ). result_map_both (Run site n) (λ fault. fault) (counted (first ∷ rest))) count.read
    ∙ ap (result_map_both (Run site workers) (λ fault. fault)) (counted_few (first ∷ rest) are.some are.few)
