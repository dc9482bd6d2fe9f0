-- What alerts are about, and the hits of each cycle (this project's profile).
use Rattle.std.specs.Prelude.{ℕ, List, [], ◌∷◌, Option, map, fold, find, get_or}
use Rattle.std.specs.declared.cmp.Ordering.{Ordering}
use Rattle.std.specs.Ordering.{eq_by_cmp, nat_cmp, ordering_then}
use Rattle.std.specs.List.Sorted.{IsStrictlySortedBy}
use Rattle.std.specs.BTreeSet.{insert_key}
use Rattle.site_types.specs.declared.site.Confirm.{Confirm}
use Rattle.site_types.specs.Nets.{place}
use Rattle.track_motion.specs.Keys.{key_cmp}
use Rattle.site_types.specs.declared.net.Net.{Net}
use Rattle.alert_states.specs.declared.event.Subject.{Subject}
use Rattle.alert_states.specs.declared.event.Hit.{Hit}

-- subjects in order: by net, then key, then second key, then object
abbrev pub subject_cmp : Subject → Subject → Ordering
subject_cmp a b =
    ordering_then (nat_cmp (place a.net) (place b.net)) (ordering_then (key_cmp a.key b.key) (ordering_then (key_cmp a.other b.other) (nat_cmp a.object b.object)))

-- the hits of a cycle stand in the order of their subjects, each subject once
abbrev pub AreInOrder : List Hit → Type 0
AreInOrder hits = IsStrictlySortedBy subject_cmp (map (λ h. h.subject) hits)

-- the hit of a subject in a cycle
abbrev pub hit_in : List Hit → Subject → Option Hit
hit_in hits s = find (λ h. eq_by_cmp subject_cmp s h.subject) hits

-- of the cycles so far, the newest first, the subject's hit in each
abbrev pub marks : List (List Hit) → Subject → List (Option Hit)
marks past s = map (λ hits. hit_in hits s) past

-- the setting of a net
abbrev pub no_setting : Confirm
no_setting = record { m = 0; n = 0; hold = 0 }

abbrev pub confirm_of : List Confirm → Net → Confirm
confirm_of confirms net = get_or confirms (place net) no_setting

-- subjects with those of a cycle's hits, each once, in order
abbrev pub with_hits : List Subject → List Hit → List Subject
with_hits known hits = fold (λ subjects h. insert_key subject_cmp subjects h.subject) known hits

-- all subjects that were hit so far, each once, in order
abbrev pub subjects : List (List Hit) → List Subject
subjects [] = []
subjects (hits ∷ before) = with_hits (subjects before) hits
