-- What a run finds, from what was read under the names.
use Rattle.std.proofs.Common.{◌≡◌, ◌≢◌, ◌⊎◌, ◌∙◌, ◌+◌, ◌<◌, ◌≤◌, inl, inr, refl, sym, ap, zero, suc, subst, ℕ, Bool, true, false, List, [], ◌∷◌, get_or, length, map, take, is_none, Option, None, Some, Result, Ok, Err, IfErr, IfOk, OnErr, OnOk, IsErrAnd, IsErrOf, Contains, length-take-le, arith, if◌then◌else◌}
use Rattle.std.specs.List.{filter_map}
use Rattle.std.proofs.lemmas.Bool.{cases_lt, lt-ltb}
use Rattle.std.proofs.lemmas.List.{get_or-map, get_or_default, length-map, take_all}
use Rattle.std.specs.Option.{option_map}
use Rattle.std.specs.Io.KnownBytes.{Appends}
use Rattle.outside_io.specs.Bytes.{AppendsPrefix}
use Rattle.outside_io.specs.Names.{bytes_of, Lacks}
use Rattle.outside_io.specs.Faults.{Rose}
use Rattle.cycle_workers.specs.Settings.{Setting, setting}
use Rattle.site_fields.specs.declared.fault.SiteFault.{SiteFault}
use Rattle.site_fields.specs.declared.fault.SiteFault.TheVariants.{Long}
use Rattle.site_fields.specs.declared.fault.SiteFault.TheVariants as refusals
use Rattle.site_params.specs.declared.read.TheConstants.{SITE_ROOM}
use Rattle.site_types.specs.declared.site.Site.{Site}
use Rattle.site_fields.specs.Kinds.{Reading}
use Rattle.site_params.specs.Site.{site_of_text}
use Rattle.terrain_file.specs.Terrain.{no_terrain, terrain_of}
use Rattle.terrain_file.specs.declared.fault.TerrainFault.{TerrainFault}
use Rattle.terrain_file.specs.declared.fault.TerrainFault.TheVariants as terrains
use Rattle.terrain_file.specs.declared.read.TheConstants.{TERRAIN_ROOM}
use Rattle.terrain_file.specs.declared.terrain.Terrain.{Terrain}
use Rattle.feed_reader.specs.Content.{Content, content}
use Rattle.replay_cli.specs.Counts.{report_in}
use Rattle.replay_cli.specs.Endings.{Breaks, Change, Completes, Ends, Halts, IsAsked, Refuses, StopsBy, change, ran, status_of, RefusesSite, RefusesTerrain, StopsAmong, StopsAt, StopsSite, StopsTerrain, fault_of, site_fault, terrain_fault, IsWork}
use Rattle.replay_cli.specs.Found.{ReadsEach, TextOf, Found, OtherWords, Untold, Lacking, Refused, Given, IfGiven, IsNamed, found, found_feeds, found_ground, found_names, found_site, found_terrain, found_unless, request, IsLacking, Files, first_lacking, read_of, terrain_read, IsGround, IsReading, IsTerrainReading}
use Rattle.replay_cli.specs.Statuses.{CountsPairs, HasBegun, MayWrite, Sunk}
use Rattle.replay_cli.specs.ReportText.{text_of}
use Rattle.feed_threads.specs.Reference.{alerts, examined, reference}
use Rattle.outside_io.specs.declared.text.Unread.{Unread}
use Rattle.outside_io.specs.declared.text.Unread.TheVariants as unreads
use Rattle.replay_cli.specs.declared.request.Request.{Request}
use Rattle.replay_cli.specs.declared.work.Work.{Work}
use Rattle.replay_cli.specs.declared.texts.FaultText.{FaultText}
use Rattle.replay_cli.specs.declared.texts.FaultText.TheVariants as texts
use Rattle.replay_cli.specs.declared.texts.Refusal.{Refusal}
use Rattle.replay_cli.specs.declared.texts.Refusal.TheVariants as refusal
use Rattle.replay_cli.proofs.Ends.{done_statuses, nothing_is_prefix}

-- ---- a site file is read to its room and one octet more

too_long : (text : List ℕ) → SITE_ROOM < length text → site_of_text text ≡ Err Long
unfolding site_of_text
too_long text long = rw (lt-ltb SITE_ROOM (length text) long) refl

-- a text that is too long is so by its front
pub site_of_front : (text : List ℕ) → site_of_text (take (SITE_ROOM + 1) text) ≡ site_of_text text
site_of_front text = elim (cases_lt SITE_ROOM (length text)) [
  | inl long ↦ too_long (take (SITE_ROOM + 1) text) (rw (length-take-le (SITE_ROOM + 1) text (omega arith)) (omega arith)) ∙ sym (too_long text long)
  | inr short ↦ ap site_of_text (take_all (SITE_ROOM + 1) text (omega arith))
]

pub reading_is : (files : Option Files) (name text : List ℕ) (reading : Reading Site) → TextOf files name (SITE_ROOM + 1) text → site_of_text text ≡ reading → IsReading files name reading
reading_is None name text reading told is = tt
reading_is (Some files) name text reading told is = rw told.1 (ap Some (sym (site_of_front told.0) ∙ sym (ap site_of_text told.2) ∙ is))

-- ---- a terrain file is read to its room and one octet more

pub terrain_reading_is : (files : Option Files) (name bytes : List ℕ) (reading : Result Terrain TerrainFault) → TextOf files name (TERRAIN_ROOM + 1) bytes → terrain_of bytes ≡ reading → IsTerrainReading files name reading
terrain_reading_is None name bytes reading told is = tt
terrain_reading_is (Some files) name bytes reading told is = rw told.1 (ap Some (sym (ap terrain_of told.2) ∙ is))

-- ---- what is found under an accepted site over its terrain

-- an accepted site under the first of the names, and its terrain
pub record IsSettled (files : Option Files) (r : Request) (s : Setting) : Type 0 where
  pub site : IsReading files r.site (Ok s.site)
  pub terrain : IsGround files s.site.terrain s.terrain

-- and what was read of the feeds
pub record AreRead (files : Option Files) (r : Request) (s : Setting) (inputs : List Content) : Type 0 where
  pub settled : IsSettled files r s
  pub feeds : ReadsEach files r.feeds inputs

over_ground : (told : Files) (s : Setting) (names : List (List ℕ)) (file : Option (List ℕ)) → IsGround (Some told) file s.terrain → found_ground told s.site names file ≡ found_feeds told s names
over_ground told s names None ground = ap (λ (t : Terrain). found_feeds told (setting s.site t) names) (sym ground)
over_ground told s names (Some name) ground = rw ground refl

found_settled : (told : Files) (r : Request) (s : Setting) → IsSettled (Some told) r s → found_names (Some told) r ≡ found_feeds told s r.feeds
found_settled told r s settled = rw settled.site (over_ground told s r.feeds s.site.terrain settled.terrain)

-- a property of what is found holds where it does while nothing is told, and where it does of the feeds under the site
pub under_setting : (files : Option Files) (r : Request) (s : Setting) (inputs : List Content) (P : Found → Type 0) → AreRead files r s inputs → P Untold → ((feeds : List (List ℕ)) → inputs ≡ map content feeds → P (Given s feeds)) → P (found_names files r)
under_setting None r s inputs P read untold holds = untold
under_setting (Some told) r s inputs P read untold holds =
    let reads = read.feeds in
    subst P (sym (found_settled told r s read.settled)) (rw reads.0 (holds (filter_map (read_of told) r.feeds) reads.1))

-- ---- runs that stop

asked_unless : (lacking : Option (List ℕ)) (s : Setting) (feeds : List (List ℕ)) → IsAsked (found_unless lacking s feeds)
asked_unless None s feeds = tt
asked_unless (Some name) s feeds = tt

asked_feeds : (told : Files) (s : Setting) (names : List (List ℕ)) → IsAsked (found_feeds told s names)
asked_feeds told s names = asked_unless (first_lacking told names) s (filter_map (read_of told) names)

asked_terrain : (told : Files) (site : Site) (names : List (List ℕ)) (name : List ℕ) (reading : Option (Result Terrain TerrainFault)) → IsAsked (found_terrain told site names name reading)
asked_terrain told site names name None = tt
asked_terrain told site names name (Some (Err fault)) = tt
asked_terrain told site names name (Some (Ok terrain)) = asked_feeds told (setting site terrain) names

asked_ground : (told : Files) (site : Site) (names : List (List ℕ)) (file : Option (List ℕ)) → IsAsked (found_ground told site names file)
asked_ground told site names None = asked_feeds told (setting site no_terrain) names
asked_ground told site names (Some name) = asked_terrain told site names name (option_map (λ bytes. terrain_of (terrain_read bytes)) (bytes_of name told))

asked_site : (told : Files) (r : Request) (reading : Option (Reading Site)) → IsAsked (found_site told r reading)
asked_site told r None = tt
asked_site told r (Some (Err fault)) = tt
asked_site told r (Some (Ok site)) = asked_ground told site r.feeds site.terrain

asked_names : (files : Option Files) (r : Request) → IsAsked (found_names files r)
asked_names None r = tt
asked_names (Some told) r = asked_site told r (option_map site_of_text (bytes_of r.site told))

-- the world tells its names, and this isn't one
none_under : (told : Files) (name : List ℕ) → Lacks (Some told) name → bytes_of name told ≡ None
none_under told name lacks =
    let same : told ≡ lacks.0 = (let some = lacks.1 in cc) in
    rw same lacks.2

lacks_site : (files : Option Files) (r : Request) → Lacks files r.site → IsLacking (found_names files r)
lacks_site None r lacks = absurd (let none = lacks.1 in cc)
lacks_site (Some told) r lacks = rw (none_under told r.site lacks) tt

lacks_terrain : (files : Option Files) (r : Request) (site : Site) (name : List ℕ) → IsReading files r.site (Ok site) → site.terrain ≡ Some name → Lacks files name → IsLacking (found_names files r)
lacks_terrain None r site name reading is lacks = absurd (let none = lacks.1 in cc)
lacks_terrain (Some told) r site name reading is lacks = rw (reading, is, none_under told name lacks) tt

lacking_unless : (lacking : Option (List ℕ)) (s : Setting) (feeds : List (List ℕ)) → lacking ≢ None → IsLacking (found_unless lacking s feeds)
lacking_unless None s feeds some = absurd (some refl)
lacking_unless (Some name) s feeds some = tt

found_first : (lacking : Bool) (name : List ℕ) (rest : Option (List ℕ)) → (lacking ≡ false → rest ≢ None) → (if lacking then Some name else rest) ≢ None
found_first true name rest others = λ none. cc
found_first false name rest others = others refl

-- where a name is lacking, one of them is the first
some_lacking : (told : Files) (names : List (List ℕ)) (k : ℕ) → k < length names → bytes_of (get_or names k []) told ≡ None → first_lacking told names ≢ None
some_lacking told [] k within lacks = absurd (omega arith)
some_lacking told (name ∷ names) zero within lacks = found_first (is_none (bytes_of name told)) name (first_lacking told names) (λ there. absurd (let no = rw lacks at there in cc))
some_lacking told (name ∷ names) (suc k) within lacks = found_first (is_none (bytes_of name told)) name (first_lacking told names) (λ there. some_lacking told names k (omega arith) lacks)

one_lacks : (told : Files) (names : List (List ℕ)) (k : ℕ) (name : List ℕ) → k < length names → get_or names k name ≡ name → bytes_of name told ≡ None → bytes_of (get_or names k []) told ≡ None
one_lacks told names k name within is none = rw (get_or_default names k [] name within, is) none

lacks_feed : (files : Option Files) (r : Request) (s : Setting) (name : List ℕ) → IsSettled files r s → Contains r.feeds name → Lacks files name → IsLacking (found_names files r)
lacks_feed None r s name settled one lacks = absurd (let none = lacks.1 in cc)
lacks_feed (Some told) r s name settled one lacks =
    let some = some_lacking told r.feeds one.0 one.1 (one_lacks told r.feeds one.0 name one.1 one.2 (none_under told name lacks)) in
    subst IsLacking (sym (found_settled told r s settled)) (lacking_unless (first_lacking told r.feeds) s (filter_map (read_of told) r.feeds) some)

refused_site : (files : Option Files) (r : Request) (cause : Refusal) → RefusesSite files r.site cause → Refuses (found_names files r) cause
refused_site files r (refusal.Terrain fault) refused = absurd refused
refused_site None r (refusal.Site fault) refused = tt
refused_site (Some told) r (refusal.Site fault) refused = rw refused refl

refused_terrain : (files : Option Files) (r : Request) (site : Site) (name : List ℕ) (cause : Refusal) → IsReading files r.site (Ok site) → site.terrain ≡ Some name → RefusesTerrain files name cause → Refuses (found_names files r) cause
refused_terrain files r site name (refusal.Site fault) reading is refused = absurd refused
refused_terrain None r site name (refusal.Terrain fault) reading is refused = tt
refused_terrain (Some told) r site name (refusal.Terrain fault) reading is refused = rw (reading, is, refused) refl

-- ---- the names that may be told

first_name : (files : Option Files) (r : Request) → IsNamed files (Some r) r.site
first_name files r = inl (0, omega arith, refl)

terrain_name : (files : Option Files) (r : Request) (site : Site) (name : List ℕ) → IsReading files r.site (Ok site) → site.terrain ≡ Some name → IsNamed files (Some r) name
terrain_name files r site name reading is = inr (site, reading, is)

later_name : (files : Option Files) (r : Request) (name : List ℕ) → Contains r.feeds name → IsNamed files (Some r) name
later_name files r name one = inl (suc one.0, omega (arith, one.1), one.2)

-- where nothing was written, that is a prefix
halts_unused : (f : Found) (out : Sunk) → out.after ≡ out.before → Halts f out
halts_unused OtherWords out same = tt
halts_unused Untold out same = tt
halts_unused (Lacking name) out same = tt
halts_unused (Refused first) out same = tt
halts_unused (Given s feeds) out same = nothing_is_prefix out.before out.after (reference s feeds) same

-- nothing was taken of a name
at_name : (refuses : Refusal → Type 0) (files : Option Files) (words : List (List ℕ)) (r : Request) (name : List ℕ) (e : FaultText) (before after : ℕ) (out : Sunk) →
    out.after ≡ out.before → request words ≡ Some r → IsNamed files (Some r) name → ((cause : Refusal) → refuses cause → Refuses (found_names files r) cause) → (Lacks files name → IsLacking (found_names files r)) →
    StopsAt refuses files before after name e → StopsBy e (ran files words (change before after) out)
at_name refuses files words r name texts.Usage before after out same asked named refused lacking stops = absurd stops
at_name refuses files words r name (texts.Refused cause) before after out same asked named refused lacking stops = rw asked (refused cause stops)
at_name refuses files words r name (texts.CannotOpen other) before after out same asked named refused lacking stops =
    rw (asked, stops.0) (asked_names files r, named, elim stops.1 [ inl lacks ↦ inl (lacking lacks) | inr rose ↦ inr rose ])
at_name refuses files words r name (texts.ReadFailed other) before after out same asked named refused lacking stops = rw (asked, stops.0) (asked_names files r, named, stops.1)
at_name refuses files words r name texts.WriteFailed before after out same asked named refused lacking stops = absurd stops
at_name refuses files words r name texts.NoMemory before after out same asked named refused lacking stops = halts_unused _ out same

-- the site wasn't read
pub stops_at_site : (files : Option Files) (words : List (List ℕ)) (r : Request) (e : FaultText) (before after : ℕ) (out : Sunk) →
    out.after ≡ out.before → request words ≡ Some r → StopsSite files before after r.site e → StopsBy e (ran files words (change before after) out)
stops_at_site files words r e before after out same asked stops =
    at_name (RefusesSite files r.site) files words r r.site e before after out same asked (first_name files r) (refused_site files r) (lacks_site files r) stops

-- the terrain wasn't read
at_terrain : (files : Option Files) (words : List (List ℕ)) (r : Request) (site : Site) (file : Option (List ℕ)) (e : FaultText) (before after : ℕ) (out : Sunk) →
    out.after ≡ out.before → request words ≡ Some r → IsReading files r.site (Ok site) → site.terrain ≡ file → StopsTerrain files before after file e → StopsBy e (ran files words (change before after) out)
at_terrain files words r site None e before after out same asked reading is stops = absurd stops
at_terrain files words r site (Some name) e before after out same asked reading is stops =
    at_name (RefusesTerrain files name) files words r name e before after out same asked (terrain_name files r site name reading is) (λ cause. refused_terrain files r site name cause reading is) (lacks_terrain files r site name reading is) stops

pub stops_at_terrain : (files : Option Files) (words : List (List ℕ)) (r : Request) (site : Site) (e : FaultText) (before after : ℕ) (out : Sunk) →
    out.after ≡ out.before → request words ≡ Some r → IsReading files r.site (Ok site) → StopsTerrain files before after site.terrain e → StopsBy e (ran files words (change before after) out)
stops_at_terrain files words r site e before after out same asked reading stops = at_terrain files words r site site.terrain e before after out same asked reading refl stops

-- one of the feeds wasn't read
pub stops_at_feeds : (files : Option Files) (words : List (List ℕ)) (r : Request) (s : Setting) (e : FaultText) (before after : ℕ) (out : Sunk) →
    out.after ≡ out.before → request words ≡ Some r → IsSettled files r s → StopsAmong files before after r.feeds e → StopsBy e (ran files words (change before after) out)
stops_at_feeds files words r s e before after out same asked settled stops =
    at_name (λ (cause : Refusal). ⊥) files words r stops.0 e before after out same asked (later_name files r stops.0 stops.1) (λ cause no. absurd no) (lacks_feed files r s stops.0 settled stops.1) stops.2

-- the words ask for nothing
pub stops_at_words : (files : Option Files) (words : List (List ℕ)) (e : FaultText) (world : Change) (out : Sunk) → out.after ≡ out.before → (e ≡ texts.NoMemory) ⊎ ((e ≡ texts.Usage) × (request words ≡ None)) → StopsBy e (ran files words world out)
stops_at_words files words e world out same (inl memory) = rw memory (halts_unused (found files words) out same)
stops_at_words files words e world out same (inr usage) = rw (usage.0, usage.1) refl

-- ---- what was written of feeds

completed : (files : Option Files) (r : Request) (s : Setting) (inputs : List Content) (work : Work) (out : Sunk) → AreRead files r s inputs → IsWork s inputs work → Appends out.before out.after (alerts s inputs) → Completes (found_names files r) out work
completed files r s inputs work out read is all = under_setting files r s inputs (λ f. Completes f out work) read (report_in s inputs, is.report) (λ feeds same. (rw same at is, rw same at all))

broken : (files : Option Files) (r : Request) (s : Setting) (inputs : List Content) (out : Sunk) → AreRead files r s inputs → AppendsPrefix out.before out.after (alerts s inputs) → Breaks (found_names files r) out
broken files r s inputs out read front = under_setting files r s inputs (λ f. Breaks f out) read (text_of (report_in s inputs), (report_in s inputs, refl)) (λ feeds same. rw same at front)

halted : (files : Option Files) (r : Request) (s : Setting) (inputs : List Content) (out : Sunk) → AreRead files r s inputs → AppendsPrefix out.before out.after (alerts s inputs) → Halts (found_names files r) out
halted files r s inputs out read front = under_setting files r s inputs (λ f. Halts f out) read tt (λ feeds same. rw same at front)

-- the work was done
completes : (files : Option Files) (words : List (List ℕ)) (r : Request) (s : Setting) (inputs : List Content) (work : Work) (world : Change) (out : Sunk) →
    request words ≡ Some r → AreRead files r s inputs → IsWork s inputs work → Appends out.before out.after (alerts s inputs) → Ends (ran files words world out) (Ok work)
completes files words r s inputs work world out asked read is all = rw asked (completed files r s inputs work out read is all)

-- the run stopped in the middle of the work
stops_at_work : (files : Option Files) (words : List (List ℕ)) (r : Request) (s : Setting) (inputs : List Content) (e : FaultText) (world : Change) (out : Sunk) →
    request words ≡ Some r → AreRead files r s inputs → (e ≡ texts.NoMemory) ⊎ ((e ≡ texts.WriteFailed) × Rose out.faults_before out.faults_after) → AppendsPrefix out.before out.after (alerts s inputs) → StopsBy e (ran files words world out)
stops_at_work files words r s inputs e world out asked read (inl memory) front = rw (memory, asked) (halted files r s inputs out read front)
stops_at_work files words r s inputs e world out asked read (inr failed) front = rw (failed.0, asked) (failed.1, broken files r s inputs out read front)

-- so the work ends
pub ends_at_work : (files : Option Files) (words : List (List ℕ)) (r : Request) (s : Setting) (inputs : List Content) (result : Result Work FaultText) (world : Change) (out : Sunk) →
    request words ≡ Some r → AreRead files r s inputs → IfOk result (IsWork s inputs) → OnOk result (Appends out.before out.after (alerts s inputs)) →
    OnErr result (AppendsPrefix out.before out.after (alerts s inputs)) → IfErr result (λ e. (e ≡ texts.NoMemory) ⊎ (e ≡ texts.WriteFailed)) →
    (IsErrOf result texts.WriteFailed → Rose out.faults_before out.faults_after) → Ends (ran files words world out) result
ends_at_work files words r s inputs (Ok work) world out asked read is all front fault rose = completes files words r s inputs work world out asked read is all
ends_at_work files words r s inputs (Err e) world out asked read is all front fault rose =
    stops_at_work files words r s inputs e world out asked read (elim fault [ inl memory ↦ inl memory | inr failed ↦ inr (failed, rose (ap Err failed)) ]) front

-- as many steps were taken as pairs are examined
pub counts_pairs : (files : Option Files) (words : List (List ℕ)) (r : Request) (s : Setting) (inputs : List Content) (before after : ℕ) →
    request words ≡ Some r → AreRead files r s inputs → after ≡ before + examined s.site inputs → IfGiven (found files words) (CountsPairs before after)
counts_pairs files words r s inputs before after asked read is = rw asked (under_setting files r s inputs (λ f. IfGiven f (CountsPairs before after)) read tt (λ feeds same. rw same at is))

-- once the feeds were read cycles are made
pub has_begun : (files : Option Files) (words : List (List ℕ)) (r : Request) (s : Setting) (inputs : List Content) → request words ≡ Some r → AreRead files r s inputs → HasBegun (found files words)
has_begun files words r s inputs asked read = rw asked (under_setting files r s inputs HasBegun read tt (λ feeds same. tt))

-- and alert bytes may have been written at the end
pub may_write : (f : Found) (result : Result Work FaultText) → HasBegun f → IfErr result (λ e. (e ≡ texts.NoMemory) ⊎ (e ≡ texts.WriteFailed)) → MayWrite f (status_of result)
may_write f (Ok work) begun fault = inl (done_statuses work.is_intact)
may_write f (Err e) begun fault = elim fault [ inl memory ↦ rw memory (inr (inr (refl, begun))) | inr failed ↦ rw failed (inr (inl refl)) ]

-- ---- a site that is refused

pub site_fault_is : (fault : SiteFault) → fault ≢ refusals.NoMemory → texts.Refused (refusal.Site fault) ≡ site_fault fault
site_fault_is refusals.NoMemory other = absurd (other refl)
site_fault_is refusals.Syntax other = refl
site_fault_is (refusals.Missing field) other = refl
site_fault_is (refusals.Kind field) other = refl
site_fault_is (refusals.Range field value) other = refl
site_fault_is (refusals.Twice field first) other = refl
site_fault_is (refusals.NoSuchName field) other = refl
site_fault_is refusals.Long other = refl

pub stops_refused : (files : Option Files) (before after : ℕ) (name text : List ℕ) (fault : SiteFault) → TextOf files name (SITE_ROOM + 1) text → (fault ≢ refusals.NoMemory → site_of_text text ≡ Err fault) →
    StopsSite files before after name (site_fault fault)
stops_refused files before after name text refusals.NoMemory told is = tt
stops_refused files before after name text refusals.Syntax told is = reading_is files name text (Err refusals.Syntax) told (is (λ e. cc))
stops_refused files before after name text (refusals.Missing field) told is = reading_is files name text (Err (refusals.Missing field)) told (is (λ e. cc))
stops_refused files before after name text (refusals.Kind field) told is = reading_is files name text (Err (refusals.Kind field)) told (is (λ e. cc))
stops_refused files before after name text (refusals.Range field value) told is = reading_is files name text (Err (refusals.Range field value)) told (is (λ e. cc))
stops_refused files before after name text (refusals.Twice field first) told is = reading_is files name text (Err (refusals.Twice field first)) told (is (λ e. cc))
stops_refused files before after name text (refusals.NoSuchName field) told is = reading_is files name text (Err (refusals.NoSuchName field)) told (is (λ e. cc))
stops_refused files before after name text refusals.Long told is = reading_is files name text (Err refusals.Long) told (is (λ e. cc))

-- ---- a terrain that is refused

pub terrain_fault_is : (fault : TerrainFault) → fault ≢ terrains.NoMemory → texts.Refused (refusal.Terrain fault) ≡ terrain_fault fault
terrain_fault_is terrains.NoMemory other = absurd (other refl)
terrain_fault_is terrains.Magic other = refl
terrain_fault_is (terrains.Cell side) other = refl
terrain_fault_is (terrains.Count columns rows) other = refl
terrain_fault_is (terrains.Size stated found) other = refl

pub stops_refused_terrain : (files : Option Files) (before after : ℕ) (name bytes : List ℕ) (fault : TerrainFault) → TextOf files name (TERRAIN_ROOM + 1) bytes → (fault ≢ terrains.NoMemory → terrain_of bytes ≡ Err fault) →
    StopsTerrain files before after (Some name) (terrain_fault fault)
stops_refused_terrain files before after name bytes terrains.NoMemory told is = tt
stops_refused_terrain files before after name bytes terrains.Magic told is = terrain_reading_is files name bytes (Err terrains.Magic) told (is (λ e. cc))
stops_refused_terrain files before after name bytes (terrains.Cell side) told is = terrain_reading_is files name bytes (Err (terrains.Cell side)) told (is (λ e. cc))
stops_refused_terrain files before after name bytes (terrains.Count columns rows) told is = terrain_reading_is files name bytes (Err (terrains.Count columns rows)) told (is (λ e. cc))
stops_refused_terrain files before after name bytes (terrains.Size stated found) told is = terrain_reading_is files name bytes (Err (terrains.Size stated found)) told (is (λ e. cc))

-- ---- counts that have risen since later rose since earlier

rose_before : (first before after : ℕ) → first ≤ before → Rose before after → Rose first after
rose_before first before after le rose = omega arith

pub stops_later : (refuses : Refusal → Type 0) (files : Option Files) (first before after : ℕ) (name : List ℕ) (e : FaultText) → first ≤ before → StopsAt refuses files before after name e → StopsAt refuses files first after name e
stops_later refuses files first before after name texts.Usage le stops = stops
stops_later refuses files first before after name (texts.Refused cause) le stops = stops
stops_later refuses files first before after name (texts.CannotOpen other) le stops = (stops.0, elim stops.1 [ inl lacks ↦ inl lacks | inr rose ↦ inr (rose_before first before after le rose) ])
stops_later refuses files first before after name (texts.ReadFailed other) le stops = (stops.0, rose_before first before after le stops.1)
stops_later refuses files first before after name texts.WriteFailed le stops = stops
stops_later refuses files first before after name texts.NoMemory le stops = stops

pub stops_later_terrain : (files : Option Files) (first before after : ℕ) (file : Option (List ℕ)) (e : FaultText) → first ≤ before → StopsTerrain files before after file e → StopsTerrain files first after file e
stops_later_terrain files first before after None e le stops = stops
stops_later_terrain files first before after (Some name) e le stops = stops_later (RefusesTerrain files name) files first before after name e le stops

pub stops_later_among : (files : Option Files) (first before after : ℕ) (names : List (List ℕ)) (e : FaultText) → first ≤ before → StopsAmong files before after names e → StopsAmong files first after names e
stops_later_among files first before after names e le stops = (stops.0, stops.1, stops_later (λ (cause : Refusal). ⊥) files first before after stops.0 e le stops.2)

-- ---- a name that wasn't read

pub stops_unread : {T : Type 0} (refuses : Refusal → Type 0) (files : Option Files) (before after : ℕ) (name : List ℕ) (u : Unread) → (IsErrOf {T = T} (Err u) unreads.Unopened → Lacks files name ⊎ Rose before after) →
    (IsErrOf {T = T} (Err u) unreads.Broken → Rose before after) →
    StopsAt refuses files before after name (fault_of u name)
stops_unread refuses files before after name unreads.Unopened opened failed = (refl, opened refl)
stops_unread refuses files before after name unreads.Broken opened failed = (refl, failed refl)
stops_unread refuses files before after name unreads.NoMemory opened failed = tt

pub memory_among : {T : Type 0} (files : Option Files) (before after : ℕ) (names : List (List ℕ)) (name : List ℕ) (result : Result T FaultText) → Contains names name → IsErrAnd result (λ e. e ≡ texts.NoMemory) →
    IfErr result (StopsAmong files before after names)
memory_among files before after names name (Ok v) one memory = tt
memory_among files before after names name (Err e) one memory = (name, one, rw memory tt)

-- the text of a name among the names
pub name_at : {A : Type 0} (f : A → List ℕ) (items : List A) (names : List (List ℕ)) (i : ℕ) (item : A) (name : List ℕ) → map f items ≡ names → i < length items → item ≡ get_or items i item → name ≡ f item → name ≡ get_or names i name
name_at f items names i item name maps within here is =
    is ∙ ap f here ∙ sym (get_or-map f items i item name within) ∙ ap (λ (ns : List (List ℕ)). get_or ns i name) maps

pub as_many : {A : Type 0} (f : A → List ℕ) (items : List A) (names : List (List ℕ)) → map f items ≡ names → length items ≡ length names
as_many f items names maps = sym (length-map items f) ∙ ap (λ (ns : List (List ℕ)). length ns) maps
