-- One cycle after the other, over all feeds.
use Rattle.std.proofs.Common.{◌≡◌, ◌∙◌, ◌+◌, ◌-◌, ◌<◌, ◌≤◌, ◌*◌, ◌^◌, ℕ, zero, suc, add-one, ℤ, pos, ◌≤ℤ◌, ◌<ℤ◌, ◌+ℤ◌, ◌*ℤ◌, true, false, not, nat_eq, List, [], ◌∷◌, ◌++◌, length, map, take, drop, Option, Some, None, Ok, Err, IsErrOf, refl, sym, ap, ap₂, subst, append_assoc, arith, take-append-drop}
use Rattle.std.specs.Int.RustNames.{unsigned_abs}
use Rattle.std.specs.Io.KnownBytes.{Appends}
use Rattle.std.specs.List.{All, enumerate_from, list_any}
use Rattle.std.specs.Option.{ForSome}
use Rattle.std.specs.Result.{OnErr}
use Rattle.std.specs.declared.result.Result.{Result}
use Rattle.std.proofs.KnownBytes.{Appends-nil, Appends-trans}
use Rattle.std.proofs.Math.Nat.{mul-le-mul}
use Rattle.std.proofs.Math.Seq.{take-append_seam}
use Rattle.std.proofs.lemmas.Int.{ints}
use Rattle.std.proofs.lemmas.List.{append-nil}
use Rattle.std.proofs.lemmas.List.Elements.{All-append, All-contains, All-nil}
use Rattle.outside_io.specs.Bytes.{AppendsPrefix}
use Rattle.cycle_workers.specs.Settings.{Setting}
use Rattle.site_types.specs.declared.site.Site.{Site}
use Rattle.track_motion.specs.declared.rank.Stamped.{Stamped}
use Rattle.track_table.specs.Held.{Held}
use Rattle.track_table.specs.Kept.{AreDue, CanFreeze, StandsFor}
use Rattle.track_table.specs.Order.{AreSame}
use Rattle.track_table.specs.Proper.{IsProper, IsSeen, IsTold, frozen_of}
use Rattle.track_table.specs.Tables.{due, table}
use Rattle.track_table.specs.Times.{IsTime, cycle_time}
use Rattle.track_table.specs.declared.table.Frozen.{Frozen}
use Rattle.cycle_engine.specs.Cycles as all
use Rattle.cycle_engine.specs.Held as engines
use Rattle.cycle_engine.specs.declared.engine.CycleDone.{CycleDone}
use Rattle.cycle_engine.specs.declared.engine.CycleFault.{CycleFault}
use Rattle.cycle_engine.specs.declared.engine.CycleFault.TheVariants.{NoMemory, WriteFault}
use Rattle.feed_reader.specs.Content.{Content}
use Rattle.feed_threads.specs.Counts.{made_of}
use Rattle.feed_threads.specs.Cycling.{behind_due, due_fronts, made_with, stamps_each}
use Rattle.feed_reader.specs.Feeds.{told_count}
use Rattle.feed_threads.specs.Reference.{alerts, cycles, examined, stamps, stamps_told}
use Rattle.track_table.specs.Cycles.{tables_of}
use Rattle.feed_threads.specs.Rows.{IsTimed, Puts}
use Rattle.feed_threads.specs.declared.cycles.Made.{Made}
use Rattle.feed_threads.proofs.Feeding.{AllFeedsPut}
use Rattle.feed_threads.proofs.TableLaws.{AreLawful}
use Rattle.feed_threads.proofs.Windows.{all_at_first, all_before, before_is_due, fronts_are, lefts_are, none_left, rises, same_due, some_left, told_before, told_in, upcoming}

-- a feed's stamps by its number and its content
abbrev told_of : Site → ℕ × Content → List Stamped
told_of site feed = stamps_told site feed.0 feed.1.records

-- the tables of the first cycles
abbrev pub first_tables : Site → List Content → ℕ → List Frozen
first_tables site inputs k = tables_of site.start site.period site.timeout (stamps site inputs) k

-- what the first cycles came to
abbrev pub made_first : Setting → List Content → ℕ → Made
made_first s inputs k = record { cycles = k; firsts = told_count (all.count_firsts s (first_tables s.site inputs k)); messages = told_count (all.count_messages s (first_tables s.site inputs k)) }

-- a table of the site, which was last taken at a cycle's end or before
pub record IsTableAt (site : Site) (held : Held) (k : ℕ) : Type 0 where
  pub start : held.start ≡ site.start
  pub period : held.period ≡ site.period
  pub timeout : held.timeout ≡ site.timeout
  pub order : ForSome held.frozen (λ last. last ≤ℤ cycle_time site.start site.period k)

-- the first cycles were made, and nothing else
pub record AreMade (s : Setting) (inputs : List Content) (k : ℕ) (cursors : List (List Stamped)) (held : Held) (engine : engines.Held) (made : Made) (old now : Option (List ℕ)) (before after : ℕ) : Type 0 where
  pub laws : AreLawful s.site inputs
  pub left : cursors ≡ map (upcoming k) (stamps_each s.site inputs)
  pub of_site : IsTableAt s.site held k
  pub put : StandsFor held (told_before k (stamps s.site inputs))
  pub seen : All (λ s. IsSeen s.track) (told_before k (stamps s.site inputs))
  pub engine_of_setting : engine.setting ≡ s
  pub next : engine.next ≡ k
  pub stands : engines.StandsFor engine (first_tables s.site inputs k)
  pub bytes : Appends old now (all.alerts s (first_tables s.site inputs k))
  pub counted : after ≡ before + all.count_all_examined s.site (first_tables s.site inputs k)
  pub came_to : made ≡ made_first s inputs k
  pub within : k ≤ cycles s.site inputs

-- ---- the first cycle

pub none_made : (s : Setting) (inputs : List Content) (cursors : List (List Stamped)) (held : Held) (engine : engines.Held) (made : Made) (now : Option (List ℕ)) (steps : ℕ) → AreLawful s.site inputs → cursors ≡ stamps_each s.site inputs →
    held ≡ record { start = s.site.start; period = s.site.period; timeout = s.site.timeout; frozen = None; kept = [] } → StandsFor held [] → engine.setting ≡ s → engines.StandsFor engine [] →
    made ≡ record { cycles = 0; firsts = 0; messages = 0 } → AreMade s inputs 0 cursors held engine made now now steps steps
none_made s inputs cursors held engine made now steps laws are is put of_setting stands none = record {
  laws = laws;
  left = are ∙ all_at_first (told_of s.site) (enumerate_from 0 inputs);
  of_site = record { start = rw is refl; period = rw is refl; timeout = rw is refl; order = rw is (λ time some. absurd (cc)) };
  put = put;
  seen = All-nil (λ (s : Stamped). IsSeen s.track);
  engine_of_setting = of_setting;
  next = stands.next;
  stands = stands;
  bytes = Appends-nil now;
  counted = omega arith;
  came_to = none;
  within = omega arith;
}

-- ---- one more cycle

-- there is one more cycle, and it ends at a time
pub record GoesOn (site : Site) (inputs : List Content) (k : ℕ) : Type 0 where
  pub more : k < cycles site inputs
  pub time : IsTime (cycle_time site.start site.period k)

pub goes_on : (site : Site) (inputs : List Content) (k : ℕ) (cursors : List (List Stamped)) → AreLawful site inputs → cursors ≡ map (upcoming k) (stamps_each site inputs) →
    list_any (λ left. not (nat_eq (length left) 0)) cursors ≡ true → GoesOn site inputs k
goes_on site inputs k cursors laws are some =
    let found = some_left (told_of site) k (enumerate_from 0 inputs) (rw are at some) in
    let s : Stamped = found.0 in
    let late : k ≤ s.window = found.2 in
    let below : s.window < cycles site inputs = laws.within s found.1 in
    record {
      more = omega arith;
      time = laws.earlier k s.window late (All-contains (λ t. IsTime (cycle_time site.start site.period t.window)) (stamps site inputs) s laws.times found.1);
    }

-- the records told by the end of the cycle are in the table
pub record ArePut (site : Site) (inputs : List Content) (k : ℕ) (cursors : List (List Stamped)) (held : Held) : Type 0 where
  pub left : cursors ≡ map (upcoming (k + 1)) (stamps_each site inputs)
  pub of_site : IsTableAt site held k
  pub put : StandsFor held (told_before (suc k) (stamps site inputs))
  pub seen : All (λ s. IsSeen s.track) (told_before (suc k) (stamps site inputs))

still_of_site : (site : Site) (k : ℕ) (old new : Held) → new ≡ record old { kept = new.kept } → IsTableAt site old k → IsTableAt site new k
still_of_site site k old new others is = rw others (record { start = is.start; period = is.period; timeout = is.timeout; order = is.order })

pub are_put : (site : Site) (inputs : List Content) (k : ℕ) (old now : List (List Stamped)) (held new : Held) → AreLawful site inputs → old ≡ map (upcoming k) (stamps_each site inputs) → IsTableAt site held k →
    StandsFor held (told_before k (stamps site inputs)) → All (λ s. IsSeen s.track) (told_before k (stamps site inputs)) → AllFeedsPut k held new old now → ArePut site inputs k now new
are_put site inputs k old now held new laws are of_site stands seen puts =
    let es : List (ℕ × Content) = enumerate_from 0 inputs in
    let front : due_fronts k old ≡ told_in k (stamps site inputs) = ap (due_fronts k) are ∙ fronts_are (told_of site) k es (λ e. rises (told_of site e) (laws.rising e.0 e.1.records)) in
    record {
      left = puts.left ∙ ap (map (behind_due k)) are ∙ lefts_are (told_of site) k es (λ e. rises (told_of site e) (laws.rising e.0 e.1.records));
      of_site = still_of_site site k held new puts.put.others of_site;
      put = subst (λ (ss : List Stamped). StandsFor new (told_before k (stamps site inputs) ++ ss)) front (puts.put.stands (told_before k (stamps site inputs)) stands);
      seen = All-append (λ (s : Stamped). IsSeen s.track) (told_before k (stamps site inputs)) (told_in k (stamps site inputs)) seen (subst (All (λ (s : Stamped). IsSeen s.track)) front puts.seen);
    }

pub can_freeze : (site : Site) (held : Held) (k : ℕ) → IsTableAt site held k → IsTime (cycle_time site.start site.period k) → CanFreeze held k
can_freeze site held k is time = record { time = rw (is.start, is.period) time; order = rw (is.start, is.period) is.order }

-- ---- the table of the cycle

told_then : (site : Site) (inputs : List Content) (k : ℕ) → AreLawful site inputs → All (λ s. IsSeen s.track) (told_before k (stamps site inputs)) → All (IsTold site.start site.period) (told_before k (stamps site inputs))
told_then site inputs k laws seen =
    let inside = all_before (λ s. s.at <ℤ cycle_time site.start site.period s.window) k (stamps site inputs) laws.inside in
    λ i d within. record { time = inside i d within; seen = seen i d within }

-- this is the table of the cycle, over all records
pub record IsTaken (site : Site) (inputs : List Content) (k : ℕ) (frozen : Frozen) : Type 0 where
  pub is : frozen ≡ frozen_of site.start site.period site.timeout k (stamps site inputs)
  pub table : engines.IsTableOf site k frozen

pub is_taken : (site : Site) (inputs : List Content) (k : ℕ) (cursors : List (List Stamped)) (held : Held) (frozen : Frozen) → AreLawful site inputs → ArePut site inputs k cursors held →
    frozen.cycle ≡ k → frozen.time ≡ cycle_time held.start held.period k →
    ((puts : List Stamped) → StandsFor held puts → AreDue k puts → frozen.rows ≡ table held.start held.period held.timeout k puts) → IsTaken site inputs k frozen
is_taken site inputs k cursors held frozen laws puts number at rows =
    let told : List Stamped = told_before (suc k) (stamps site inputs) in
    let due_all : AreDue k told = before_is_due k (stamps site inputs) in
    let taken : frozen.rows ≡ table site.start site.period site.timeout k told = rw (puts.of_site.start, puts.of_site.period, puts.of_site.timeout) at (rows told puts.put due_all) in
    let at_end : frozen.time ≡ cycle_time site.start site.period k = rw (puts.of_site.start, puts.of_site.period) at at in
    let same : AreSame (due k (stamps site inputs)) (due k told) = subst (AreSame (due k (stamps site inputs))) (sym (laws.all_due k told due_all)) (same_due k (stamps site inputs)) in
    let of_told : frozen ≡ frozen_of site.start site.period site.timeout k told = made_up frozen k (cycle_time site.start site.period k) (table site.start site.period site.timeout k told) number at_end taken in
    let of_all : frozen ≡ frozen_of site.start site.period site.timeout k (stamps site inputs) =
    made_up frozen k (cycle_time site.start site.period k) (table site.start site.period site.timeout k (stamps site inputs)) number at_end (taken ∙ sym (laws.same_table k told same)) in
    record {
      is = of_all;
      table = record {
        cycle = number;
        time = at_end;
        proper = subst IsProper (sym of_told) (laws.proper k told (told_then site inputs (suc k) laws puts.seen));
      };
    }
  where
    made_up : (frozen : Frozen) (k : ℕ) (time : ℤ) (rows : List Stamped) → frozen.cycle ≡ k → frozen.time ≡ time → frozen.rows ≡ rows → frozen ≡ record { cycle = k; time = time; rows = rows }
    made_up frozen k time rows number at are = rw (sym number, sym at, sym are) refl

-- ---- the same, as calls tell it

-- the records that are due were put into the table of a cycle that goes on
pub record AreReached (site : Site) (inputs : List Content) (k : ℕ) (cursors : List (List Stamped)) (held : Held) : Type 0 where
  pub more : GoesOn site inputs k
  pub put : ArePut site inputs k cursors held

pub are_reached : {s : Setting} {inputs : List Content} {k : ℕ} {items : List (List Stamped)} {held : Held} {engine : engines.Held} {made : Made} {old now : Option (List ℕ)} {before after : ℕ} (n : ℕ) (read lent lefts : List (List Stamped)) (new : Held) →
    AreMade s inputs k items held engine made old now before after → n ≡ k → read ≡ items → list_any (λ left. not (nat_eq (length left) 0)) read ≡ true → lent ≡ items →
    lefts ≡ map (behind_due n) lent → Puts held new (due_fronts n lent) → All (λ s. IsSeen s.track) (due_fronts n lent) → AreReached s.site inputs k lefts new
are_reached {s} {inputs} {k} {items} {held} n read lent lefts new so_far number is_read some is_lent behind puts seen =
    let left : lefts ≡ map (behind_due k) items = behind ∙ ap₂ (λ (m : ℕ) (ls : List (List Stamped)). map (behind_due m) ls) number is_lent in
    let fronts : due_fronts n lent ≡ due_fronts k items = ap₂ (λ (m : ℕ) (ls : List (List Stamped)). due_fronts m ls) number is_lent in
    let put : AllFeedsPut k held new items lefts = record { left = left; put = subst (Puts held new) fronts puts; seen = subst (All (λ (s : Stamped). IsSeen s.track)) fronts seen } in
    record {
      more = goes_on s.site inputs k items so_far.laws so_far.left (rw is_read at some);
      put = are_put s.site inputs k items lefts held new so_far.laws so_far.left so_far.of_site so_far.put so_far.seen put;
    }

pub freezes : {site : Site} {inputs : List Content} {k : ℕ} {cursors : List (List Stamped)} {held : Held} (n : ℕ) → AreReached site inputs k cursors held → n ≡ k → CanFreeze held n
freezes {site} {inputs} {k} {cursors} {held} n reached number = subst (CanFreeze held) (sym number) (can_freeze site held k reached.put.of_site reached.more.time)

pub is_table : {site : Site} {inputs : List Content} {k : ℕ} {cursors : List (List Stamped)} {held : Held} (n : ℕ) (frozen : Frozen) → AreLawful site inputs → AreReached site inputs k cursors held → n ≡ k → frozen.cycle ≡ n →
    frozen.time ≡ cycle_time held.start held.period n → ((puts : List Stamped) → StandsFor held puts → AreDue n puts → frozen.rows ≡ table held.start held.period held.timeout n puts) → IsTaken site inputs k frozen
is_table {site} {inputs} {k} {cursors} {held} n frozen laws reached number is at rows =
    is_taken site inputs k cursors held frozen laws reached.put (is ∙ number) (at ∙ ap (λ (m : ℕ). cycle_time held.start held.period m) number)
    (subst (λ (m : ℕ). (puts : List Stamped) → StandsFor held puts → AreDue m puts → frozen.rows ≡ table held.start held.period held.timeout m puts) number rows)

pub frozen_at : (k n : ℕ) (old new : Held) → n ≡ k → new ≡ record old { frozen = Some (cycle_time old.start old.period n); kept = new.kept } → new ≡ record old { frozen = Some (cycle_time old.start old.period k); kept = new.kept }
frozen_at k n old new number others = subst (λ (m : ℕ). new ≡ record old { frozen = Some (cycle_time old.start old.period m); kept = new.kept }) number others

-- ---- what stands behind it

later_frozen : (site : Site) (inputs : List Content) (k : ℕ) (old new : Held) → AreLawful site inputs → new ≡ record old { frozen = Some (cycle_time old.start old.period k); kept = new.kept } → IsTableAt site old k → IsTableAt site new (suc k)
later_frozen site inputs k old new laws others is = rw others (record {
  start = is.start;
  period = is.period;
  timeout = is.timeout;
  order = λ last some. subst (λ (t : ℤ). t ≤ℤ cycle_time site.start site.period (suc k)) (rw (is.start, is.period) at (same_last (cycle_time old.start old.period k) last some)) (laws.in_order k (suc k) (omega arith));
})
  where
    same_last : (a b : ℤ) → Some a ≡ Some b → a ≡ b
    same_last a b same = cc

told_sum : (total more : ℕ) → told_count (told_count total + more) ≡ told_count (total + more)
told_sum total more = omega arith

few_by_time : (start period : ℤ) (k p : ℕ) → pos 0 ≤ℤ start → period ≡ pos p → 1 ≤ p → IsTime (cycle_time start period k) → k + 1 < 2 ^ 62
few_by_time start period k p low is some time =
    let high = time.high in
    let product : pos (k + 1) *ℤ pos p ≡ pos ((k + 1) * p) = omega (arith, ints) in
    let all_of : k + 1 ≤ k + 1 = omega arith in
    let wide : (k + 1) * 1 ≤ (k + 1) * p = mul-le-mul all_of some in
    let at : (start +ℤ pos ((k + 1) * p)) <ℤ pos (2 ^ 62) = rw (is, product) at high in
    omega (arith, ints)

-- there are fewer cycles than counts go
few_cycles : (site : Site) (k : ℕ) → IsTimed site → IsTime (cycle_time site.start site.period k) → k + 1 < 2 ^ 62
few_cycles site k timed time =
    let some = timed.period_low in
    few_by_time site.start site.period k (unsigned_abs site.period) timed.start_low (omega (arith, ints)) (omega (arith, ints)) time

one_more_made : (s : Setting) (inputs : List Content) (k : ℕ) (frozen : Frozen) (made new : Made) (done : CycleDone) → k + 1 < 2 ^ 62 → frozen ≡ frozen_of s.site.start s.site.period s.site.timeout k (stamps s.site inputs) → made ≡ made_first s inputs k →
    done ≡ all.done_of s frozen (first_tables s.site inputs k) → new ≡ made_with made done → new ≡ made_first s inputs (suc k)
one_more_made s inputs k frozen made new done few is so_far came more =
    let count : told_count (k + 1) ≡ suc k = omega arith in
    let firsts = told_sum (all.count_firsts s (first_tables s.site inputs k)) (all.firsts_in s (first_tables s.site inputs (suc k))) in
    let messages = told_sum (all.count_messages s (first_tables s.site inputs k)) (length (all.events_in s (first_tables s.site inputs (suc k)))) in
    more
    ∙ ap₂ made_with so_far (came ∙ ap (λ (f : Frozen). all.done_of s f (first_tables s.site inputs k)) is)
    ∙ rw (count, firsts, messages) refl

-- what the engine did with the table of a cycle
pub record IsDone (k : ℕ) (frozen : Frozen) (old new : engines.Held) (done : CycleDone) (before after : Option (List ℕ)) (steps counted : ℕ) : Type 0 where
  pub bytes : (tables : List Frozen) → engines.StandsFor old tables → Appends before after (all.cycle_alerts old.setting (frozen ∷ tables))
  pub stands : (tables : List Frozen) → engines.StandsFor old tables → engines.StandsFor new (frozen ∷ tables)
  pub came_to : (tables : List Frozen) → engines.StandsFor old tables → done ≡ all.done_of old.setting frozen tables
  pub count : counted ≡ steps + done.examined
  pub onward : new.next ≡ old.next + 1
  pub of_setting : new.setting ≡ old.setting

-- one more cycle was made
pub one_more : (s : Setting) (inputs : List Content) (k : ℕ) (cursors nexts : List (List Stamped)) (held full taken : Held) (frozen : Frozen) (engine after : engines.Held) (made new : Made) (done : CycleDone) (old now then : Option (List ℕ)) (start steps counted : ℕ) →
    IsTimed s.site → AreMade s inputs k cursors held engine made old now start steps → GoesOn s.site inputs k → ArePut s.site inputs k nexts full → taken ≡ record full { frozen = Some (cycle_time full.start full.period k); kept = taken.kept } →
    ((puts : List Stamped) → StandsFor full puts → StandsFor taken puts) → IsTaken s.site inputs k frozen → IsDone k frozen engine after done now then steps counted → new ≡ made_with made done → AreMade s inputs (suc k) nexts taken after new old then start counted
one_more s inputs k cursors nexts held full taken frozen engine after made new done old now then start steps counted timed so_far more put others stands is does came =
    let tables : List Frozen = first_tables s.site inputs k in
    let grown : frozen ∷ tables ≡ first_tables s.site inputs (suc k) = ap (λ (f : Frozen). f ∷ tables) is.is in
    let bytes : Appends now then (all.cycle_alerts s (first_tables s.site inputs (suc k))) = subst (λ (ts : List Frozen). Appends now then (all.cycle_alerts s ts)) grown
    (subst (λ (of : Setting). Appends now then (all.cycle_alerts of (frozen ∷ tables))) so_far.engine_of_setting (does.bytes tables so_far.stands)) in
    let came_to : done ≡ all.done_of s frozen tables = subst (λ (of : Setting). done ≡ all.done_of of frozen tables) so_far.engine_of_setting (does.came_to tables so_far.stands) in
    let examined_here : done.examined ≡ (all.done_of s (frozen_of s.site.start s.site.period s.site.timeout k (stamps s.site inputs)) tables).examined = ap (λ (d : CycleDone). d.examined) came_to ∙ ap (λ (f : Frozen). (all.done_of s f tables).examined) is.is in
    let count = does.count in
    let so_many = so_far.counted in
    let within = more.more in
    record {
      laws = so_far.laws;
      left = subst (λ (n : ℕ). nexts ≡ map (upcoming n) (stamps_each s.site inputs)) (add-one k) put.left;
      of_site = later_frozen s.site inputs k full taken so_far.laws others put.of_site;
      put = stands (told_before (suc k) (stamps s.site inputs)) put.put;
      seen = put.seen;
      engine_of_setting = does.of_setting ∙ so_far.engine_of_setting;
      next = does.onward ∙ ap (λ (n : ℕ). n + 1) so_far.next ∙ add-one k;
      stands = subst (engines.StandsFor after) grown (does.stands tables so_far.stands);
      bytes = Appends-trans old now then (all.alerts s tables) (all.cycle_alerts s (first_tables s.site inputs (suc k))) so_far.bytes bytes;
      counted = omega arith;
      came_to = one_more_made s inputs k frozen made new done (few_cycles s.site k timed more.time) is.is so_far.came_to came_to came;
      within = omega arith;
    }

-- ---- the end

-- all cycles were made
pub record AreAllMade (s : Setting) (inputs : List Content) (made : Made) (old now : Option (List ℕ)) (before after : ℕ) : Type 0 where
  pub bytes : Appends old now (alerts s inputs)
  pub counted : after ≡ before + examined s.site inputs
  pub came_to : made ≡ made_of s inputs

pub all_made : (s : Setting) (inputs : List Content) (k : ℕ) (cursors : List (List Stamped)) (held : Held) (engine : engines.Held) (made : Made) (old now : Option (List ℕ)) (before after : ℕ) →
    AreMade s inputs k cursors held engine made old now before after → list_any (λ left. not (nat_eq (length left) 0)) cursors ≡ false → AreAllMade s inputs made old now before after
all_made s inputs k cursors held engine made old now before after so_far none =
    let few : cycles s.site inputs ≤ k = so_far.laws.few k (none_left (told_of s.site) k (enumerate_from 0 inputs) (rw so_far.left at none)) in
    let within = so_far.within in
    let all_of : k ≡ cycles s.site inputs = omega arith in
    record {
      bytes = subst (λ (n : ℕ). Appends old now (all.alerts s (first_tables s.site inputs n))) all_of so_far.bytes;
      counted = subst (λ (n : ℕ). after ≡ before + all.count_all_examined s.site (first_tables s.site inputs n)) all_of so_far.counted;
      came_to = subst (λ (n : ℕ). made ≡ made_first s inputs n) all_of so_far.came_to;
    }

-- ---- a stop before it

-- where nothing was taken, a prefix of the bytes was
pub nothing_is_prefix : (old new : Option (List ℕ)) (bytes : List ℕ) → new ≡ old → AppendsPrefix old new bytes
nothing_is_prefix None new bytes same = (0, tt)
nothing_is_prefix (Some xs) new bytes same = (0, rw same (sym (append-nil xs)))

-- the alert bytes of all cycles begin with those of the first
pub record BeginsWith (bytes first : List ℕ) : Type 0 where
  pub rest : List ℕ
  pub whole : bytes ≡ first ++ rest

begins_after : (s : Setting) (inputs : List Content) (k n : ℕ) → BeginsWith (all.alerts s (first_tables s.site inputs (n + k))) (all.alerts s (first_tables s.site inputs k))
begins_after s inputs k zero =
    let none : 0 + k ≡ k = omega arith in
    record { rest = []; whole = ap (λ (m : ℕ). all.alerts s (first_tables s.site inputs m)) none ∙ sym (append-nil (all.alerts s (first_tables s.site inputs k))) }
begins_after s inputs k (suc n) =
    let before = begins_after s inputs k n in
    let more : List ℕ = all.cycle_alerts s (first_tables s.site inputs (suc (n + k))) in
    let next : suc n + k ≡ suc (n + k) = omega arith in
    record {
      rest = before.rest ++ more;
      whole = ap (λ (m : ℕ). all.alerts s (first_tables s.site inputs m)) next ∙ ap (λ (bs : List ℕ). bs ++ more) before.whole ∙ append_assoc (all.alerts s (first_tables s.site inputs k)) before.rest more;
    }

begins_with : (s : Setting) (inputs : List Content) (k : ℕ) → k ≤ cycles s.site inputs → BeginsWith (alerts s inputs) (all.alerts s (first_tables s.site inputs k))
begins_with s inputs k within =
    let left : (cycles s.site inputs - k) + k ≡ cycles s.site inputs = omega arith in
    subst (λ (m : ℕ). BeginsWith (all.alerts s (first_tables s.site inputs m)) (all.alerts s (first_tables s.site inputs k))) left (begins_after s inputs k (cycles s.site inputs - k))

is_prefix : (old now : Option (List ℕ)) (bytes first : List ℕ) → BeginsWith bytes first → Appends old now first → AppendsPrefix old now bytes
is_prefix old now bytes first begins appends = (length first, subst (Appends old now) (sym (ap (take (length first)) begins.whole ∙ take-append_seam first begins.rest)) appends)

-- the cycles so far are a prefix of all
pub prefix_made : (s : Setting) (inputs : List Content) (k : ℕ) (cursors : List (List Stamped)) (held : Held) (engine : engines.Held) (made : Made) (old now : Option (List ℕ)) (before after : ℕ) →
    AreMade s inputs k cursors held engine made old now before after → AppendsPrefix old now (alerts s inputs)
prefix_made s inputs k cursors held engine made old now before after so_far =
    is_prefix old now (alerts s inputs) (all.alerts s (first_tables s.site inputs k)) (begins_with s inputs k so_far.within) so_far.bytes

-- and so are they with a prefix of the next
pub prefix_cut : (s : Setting) (inputs : List Content) (k : ℕ) (cursors : List (List Stamped)) (held : Held) (frozen : Frozen) (engine : engines.Held) (made : Made) (old now then : Option (List ℕ)) (before after : ℕ) →
    AreMade s inputs k cursors held engine made old now before after → GoesOn s.site inputs k → IsTaken s.site inputs k frozen →
    ((tables : List Frozen) → engines.StandsFor engine tables → AppendsPrefix now then (all.cycle_alerts engine.setting (frozen ∷ tables))) → AppendsPrefix old then (alerts s inputs)
prefix_cut s inputs k cursors held frozen engine made old now then before after so_far more is cut =
    let tables : List Frozen = first_tables s.site inputs k in
    let first : List ℕ = all.alerts s tables in
    let next : List ℕ = all.cycle_alerts s (first_tables s.site inputs (suc k)) in
    let of_setting : AppendsPrefix now then (all.cycle_alerts s (frozen ∷ tables)) = subst (λ (of : Setting). AppendsPrefix now then (all.cycle_alerts of (frozen ∷ tables))) so_far.engine_of_setting (cut tables so_far.stands) in
    let here : AppendsPrefix now then next = subst (λ (f : Frozen). AppendsPrefix now then (all.cycle_alerts s (f ∷ tables))) is.is of_setting in
    let count : ℕ = here.0 in
    let part : List ℕ = take count next in
    let further = more.more in
    let begins = begins_with s inputs (suc k) (omega arith) in
    let split : first ++ next ≡ (first ++ part) ++ drop count next = ap (λ (bs : List ℕ). first ++ bs) (sym (take-append-drop count next)) ∙ sym (append_assoc first part (drop count next)) in
    is_prefix old then (alerts s inputs) (first ++ part)
    (record { rest = drop count next ++ begins.rest; whole = begins.whole ∙ ap (λ (bs : List ℕ). bs ++ begins.rest) split ∙ append_assoc (first ++ part) (drop count next) begins.rest })
    (Appends-trans old now then first part so_far.bytes here.1)

-- ---- an error

-- what holds at an error
pub at_err : {T E : Type 0} {P : Type 0} (r : Result T E) → P → OnErr r P
at_err (Ok x) p = tt
at_err (Err e) p = p

-- a cycle was stopped by want of memory or by a write that failed
pub stopped : {P : Type 0} (fault : CycleFault) → (IsErrOf {T = CycleDone} (Err fault) NoMemory → P) → (IsErrOf {T = CycleDone} (Err fault) WriteFault → P) → P
stopped NoMemory memory write = memory refl
stopped WriteFault memory write = write refl

-- the fault that an error tells
pub fault_told : {T E : Type 0} (r : Result T E) (x y : E) → r ≡ Err x → IsErrOf r y → x ≡ y
fault_told r x y at is = cc

pub fault_handed_on : {T E : Type 0} (r : Result T E) (x y fault : E) → r ≡ Err x → x ≡ y → IsErrOf r fault → y ≡ fault
fault_handed_on r x y fault at same is = cc
