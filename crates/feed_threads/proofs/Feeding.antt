-- The stamps of feeds, put into a table up to the end of a cycle.
use Rattle.std.proofs.Common.{◌≡◌, ◌∙◌, ◌+◌, ◌<◌, ℕ, suc, Bool, true, false, cond, nat_le, List, [], ◌∷◌, ◌++◌, length, drop, get_or, set, take, map, zero, add-one, Some, None, refl, sym, ap, subst, append_assoc, arith}
use Rattle.std.proofs.lemmas.Grind.{flat_map-append}
use Rattle.std.proofs.lemmas.List.{append-nil, map-append, take_more}
use Rattle.std.proofs.lemmas.List.Elements.{All-append, All-push}
use Rattle.std.specs.List.{All, enumerate_from}
use Rattle.site_types.specs.declared.site.Site.{Site}
use Rattle.track_motion.specs.declared.rank.Stamped.{Stamped}
use Rattle.track_table.specs.Held.{Held}
use Rattle.track_table.specs.Kept.{StandsFor}
use Rattle.feed_reader.specs.Content.{Content}
use Rattle.track_table.specs.Proper.{IsSeen}
use Rattle.feed_threads.specs.Cursors.{first_due}
use Rattle.feed_threads.specs.Cycling.{behind_due, due_front, due_fronts, stamps_each}
use Rattle.feed_threads.specs.Reference.{stamps_told}
use Rattle.feed_threads.specs.Rows.{Puts}
use Rattle.feed_threads.proofs.Lists.{numbered_more}

-- ---- the feeds

-- the stamps of one more feed
pub each_more : (site : Site) (inputs : List Content) (i : ℕ) (input : Content) → i < length inputs → stamps_each site (take (i + 1) inputs) ≡ stamps_each site (take i inputs) ++ stamps_told site i (get_or inputs i input).records ∷ []
each_more site inputs i input within =
    let f : ℕ × Content → List Stamped = λ feed. stamps_told site feed.0 feed.1.records in
    ap (map f) (numbered_more inputs i input within)
    ∙ map-append f (enumerate_from 0 (take i inputs)) ((i, get_or inputs i input) ∷ [])

-- ---- puts

pub puts_none : (held : Held) → Puts held held []
puts_none held = record { stands = λ puts stands. rw (sym (append-nil puts)) at stands; others = refl }

pub puts_all : (old now new : Held) (first second : List Stamped) → Puts old now first → Puts now new second → Puts old new (first ++ second)
puts_all old now new first second one two = record {
  stands = λ puts stands. rw (append_assoc puts first second) at (two.stands (puts ++ first) (one.stands puts stands));
  others = rw one.others at two.others;
}

put_one : (old now new : Held) (before : List Stamped) (s : Stamped) → Puts old now before → ((puts : List Stamped) → StandsFor now puts → StandsFor new (puts ++ s ∷ [])) → new ≡ record now { kept = new.kept } → Puts old new (before ++ s ∷ [])
put_one old now new before s so_far stands others = puts_all old now new before (s ∷ []) so_far (record { stands = stands; others = others })

-- ---- one feed

-- the first of the stamps left is due
record FirstDue (k : ℕ) (s : Stamped) (left : List Stamped) : Type 0 where
  pub front : due_front k left ≡ s ∷ due_front k (drop 1 left)
  pub behind : behind_due k left ≡ behind_due k (drop 1 left)

first_at : (due : Bool) (k : ℕ) (t s : Stamped) (ts : List Stamped) → cond due (Some t) None ≡ Some s → (cond due (t ∷ due_front k ts) [] ≡ s ∷ due_front k ts) × (cond due (behind_due k ts) (t ∷ ts) ≡ behind_due k ts)
first_at true k t s ts is = (cc, refl)
first_at false k t s ts is = absurd (cc)

first_is_due : (k : ℕ) (s : Stamped) (left : List Stamped) → first_due k left ≡ Some s → FirstDue k s left
first_is_due k s [] is = absurd (cc)
first_is_due k s (t ∷ ts) is =
    let both = first_at (nat_le t.window k) k t s ts is in
    record { front = both.0; behind = both.1 }

-- of all stamps these were put into the table, and those are left
pub record PutSoFar (k : ℕ) (old now : Held) (all left : List Stamped) : Type 0 where
  pub put : List Stamped
  pub front : due_front k all ≡ put ++ due_front k left
  pub behind : behind_due k all ≡ behind_due k left
  pub seen : All (λ s. IsSeen s.track) put
  pub puts : Puts old now put

pub one_put : (k : ℕ) (old now new : Held) (all left : List Stamped) (s : Stamped) → PutSoFar k old now all left → first_due k left ≡ Some s → IsSeen s.track →
    ((puts : List Stamped) → StandsFor now puts → StandsFor new (puts ++ s ∷ [])) → new ≡ record now { kept = new.kept } → PutSoFar k old new all (drop 1 left)
one_put k old now new all left s so_far is seen stands others =
    let first = first_is_due k s left is in
    record {
      put = so_far.put ++ s ∷ [];
      front = so_far.front ∙ ap (λ (ss : List Stamped). so_far.put ++ ss) first.front ∙ sym (append_assoc so_far.put (s ∷ []) (due_front k (drop 1 left)));
      behind = so_far.behind ∙ first.behind;
      seen = All-push (λ (r : Stamped). IsSeen r.track) so_far.put s so_far.seen seen;
      puts = put_one old now new so_far.put s so_far.puts stands others;
    }

-- ---- all feeds

-- one more element of a list is changed
changed_at : {X : Type 0} (f : X → X) (xs : List X) (i : ℕ) (d : X) → i < length xs → set (map f (take i xs) ++ drop i xs) i (f (get_or xs i d)) ≡ map f (take (suc i) xs) ++ drop (suc i) xs
changed_at f [] i d before = absurd (omega arith)
changed_at f (x ∷ xs) zero d before = refl
changed_at f (x ∷ xs) (suc i) d before = ap (λ ys. f x ∷ ys) (changed_at f xs i d (omega arith))

unchanged_at : {X : Type 0} (f : X → X) (xs : List X) (i : ℕ) (d : X) → i < length xs → get_or (map f (take i xs) ++ drop i xs) i d ≡ get_or xs i d
unchanged_at f [] i d before = absurd (omega arith)
unchanged_at f (x ∷ xs) zero d before = refl
unchanged_at f (x ∷ xs) (suc i) d before = unchanged_at f xs i d (omega arith)

fronts_more : (k : ℕ) (feeds : List (List Stamped)) (i : ℕ) (d : List Stamped) → i < length feeds → due_fronts k (take (i + 1) feeds) ≡ due_fronts k (take i feeds) ++ due_front k (get_or feeds i d)
fronts_more k feeds i d before =
    ap (due_fronts k) (take_more feeds i d before)
    ∙ flat_map-append (due_front k) (take i feeds) (get_or feeds i d ∷ [])
    ∙ ap (λ ss. due_fronts k (take i feeds) ++ ss) (append-nil (due_front k (get_or feeds i d)))

-- the feeds so far were put into the table
pub record FeedsPut (k : ℕ) (old now : Held) (feeds lefts : List (List Stamped)) (i : ℕ) : Type 0 where
  pub left : lefts ≡ map (behind_due k) (take i feeds) ++ drop i feeds
  pub put : Puts old now (due_fronts k (take i feeds))
  pub seen : All (λ s. IsSeen s.track) (due_fronts k (take i feeds))

pub one_feed_put : (k : ℕ) (old now new : Held) (feeds lefts : List (List Stamped)) (i : ℕ) (d after : List Stamped) → i < length feeds → FeedsPut k old now feeds lefts i → after ≡ behind_due k (get_or lefts i d) →
    Puts now new (due_front k (get_or lefts i d)) → All (λ s. IsSeen s.track) (due_front k (get_or lefts i d)) → FeedsPut k old new feeds (set lefts i after) (i + 1)
one_feed_put k old now new feeds lefts i d after before so_far behind puts seen =
    let here : get_or lefts i d ≡ get_or feeds i d = ap (λ (ss : List (List Stamped)). get_or ss i d) so_far.left ∙ unchanged_at (behind_due k) feeds i d before in
    let more = fronts_more k feeds i d before in
    record {
      left = ap (λ (ss : List (List Stamped)). set ss i after) so_far.left
          ∙ ap (λ (a : List Stamped). set (map (behind_due k) (take i feeds) ++ drop i feeds) i a) (behind ∙ ap (behind_due k) here)
          ∙ changed_at (behind_due k) feeds i d before
          ∙ ap (λ (n : ℕ). map (behind_due k) (take n feeds) ++ drop n feeds) (sym (add-one i));
      put = rw more (puts_all old now new (due_fronts k (take i feeds)) (due_front k (get_or feeds i d)) so_far.put (subst (λ (ss : List Stamped). Puts now new (due_front k ss)) here puts));
      seen = rw more (All-append (λ (s : Stamped). IsSeen s.track) (due_fronts k (take i feeds)) (due_front k (get_or feeds i d)) so_far.seen (subst (λ (ss : List Stamped). All (λ (s : Stamped). IsSeen s.track) (due_front k ss)) here seen));
    }

-- all feeds were put into the table
pub record AllFeedsPut (k : ℕ) (old now : Held) (feeds lefts : List (List Stamped)) : Type 0 where
  pub left : lefts ≡ map (behind_due k) feeds
  pub put : Puts old now (due_fronts k feeds)
  pub seen : All (λ s. IsSeen s.track) (due_fronts k feeds)
