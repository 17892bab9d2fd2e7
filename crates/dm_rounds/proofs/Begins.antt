-- What the first reply tells may be told.
use Rattle.std.proofs.Common.{◌≡◌, inl, inr, ◌≤◌, ◌^◌, ℕ, List, length, Option, Some, None, Ok, Err, refl, sym, ◌∙◌, ap, subst, arith, false}
use Rattle.std.specs.Prelude.{IfSome}
use Rattle.std.proofs.lemmas.Bool.{cases_lt}
use Rattle.dm_types.specs.declared.address.Address.{Address}
use Rattle.dm_types.specs.declared.item.Key.{Key}
use Rattle.dm_types.specs.declared.kinds.DiskKind.{DiskKind}
use Rattle.dm_disk_model.specs.Disk.{History as Clock}
use Rattle.dm_edge.specs.declared.wanted.Wanted.TheVariants.{Whole}
use Rattle.dm_edge.specs.Fair.{key_of}
use Rattle.dm_edge.specs.Metadata.{most_tag}
use Rattle.dm_edge.specs.Wire.{Closed}
use Rattle.dm_kept.specs.Files.{Says}
use Rattle.dm_request.specs.Fault.{IsRead}
use Rattle.dm_request.specs.Reading.{addressed, most}
use Rattle.dm_request.proofs.ReadingLemmas.{too_long}
use Rattle.dm_record.specs.Limits.{AtMost, IsTag}
use Rattle.dm_reply.specs.declared.head.Head.{Head}
use Rattle.dm_reply.specs.Content.{IsPlainHead}
use Rattle.dm_ask.specs.Redirects.{purpose_of}
use Rattle.dm_store.specs.declared.pass.Pass.{Pass}
use Rattle.dm_store.specs.View.{View}
use Rattle.dm_answers.specs.Describe.{IsKeyFor, IsTelling}
use Rattle.dm_answers.specs.declared.answer.SlicePass.{SlicePass}
use Rattle.dm_answers.specs.declared.answer.Told.{Told}
use Rattle.dm_attempt.specs.declared.stop.Stop.{Stop}
use Rattle.dm_attempt.specs.declared.stop.Stop.TheVariants as stops
use Rattle.dm_attempt.specs.Asking.{Asking}
use Rattle.dm_attempt.specs.Ending.{IsOfDesk, StopHolds}
use Rattle.dm_attempt.specs.Ends.{DescribeLeaves, PlanLeaves, tale_of}
use Rattle.dm_attempt.specs.Live.{LiveDesk}
use Rattle.dm_attempt.specs.Scene.{Scene}
use Rattle.dm_attempt.specs.Trace.{Trace, told_with, wished}
use Rattle.dm_rounds.specs.Beginning.{HasPlanned, HasTold, NotPlanned, NotTold}
use Rattle.dm_rounds.specs.First.{first_asking}
use Rattle.dm_rounds.specs.Telling.{IsToldOf}
use Rattle.dm_rounds.proofs.Nexts.{plan_holds}

-- a text that an address is read of is short
pub short_read : (text : List ℕ) (address : Address) → IsRead text address → length text ≤ 4096
short_read text address read = elim (cases_lt most (length text)) [ inl long ↦ absurd (let e = sym (ap addressed (too_long None text long)) ∙ read in cc) | inr short ↦ short ]

tag_short : (pass : Pass) (address : Address) (tag : Option (List ℕ)) → IfSome tag (λ t. length t ≤ most_tag) → IsTag (key_of (purpose_of pass.id pass.attempt address) tag)
tag_short pass address None small = tt
tag_short pass address (Some tag) small = small

own_key : (pass : Pass) (address : Address) (tag : Option (List ℕ)) → IsKeyFor pass (key_of (purpose_of pass.id pass.attempt address) tag)
own_key pass address None = (refl, refl)
own_key pass address (Some tag) = tt

pub telling : (pass : Pass) (handed : List ℕ) (head : Head) (address : Address) (key : Key) (told : Told) → IsPlainHead Whole head → key ≡ key_of (purpose_of pass.id pass.attempt address) head.strong → IsRead address.text address
    → IsToldOf handed head address key told → IsTelling pass told
telling pass handed head address key told plain key_is read is =
    let same : told.key ≡ key_of (purpose_of pass.id pass.attempt address) head.strong = is.key_is ∙ key_is in
    record {
      small = subst (λ (t : Option ℕ). IfSome t (λ n. n ≤ 2 ^ 40)) (sym is.total_is) plain.limit.total;
      wish = record { raw = _; is = is.wish_is.clean_is };
      tag = subst IsTag (sym same) (tag_short pass address head.strong plain.strong);
      address = subst (λ (t : List ℕ). AtMost 4096 t) (sym is.address_is) (short_read address.text address read);
      modified = subst (λ (t : List ℕ). AtMost 128 t) (sym is.modified_is) plain.modified;
      own = subst (IsKeyFor pass) (sym same) (own_key pass address head.strong);
    }

module _ {D O : Type 0} (tells : Type 0) (clock : D → Clock) (says : O → Says) (far : D → ℕ) (counts : D → DiskKind → ℕ) (scene : Scene D O) (pass : Pass) (old new : View D O) (led lost : List Closed) (count : ℕ) (handed : List ℕ) (head : Head) (address : Address) (key : Key) where
  named_holds : (told : Told) (stop : Stop) → DescribeLeaves tells clock says far counts scene pass old new led lost count head told address (Err stop) → StopHolds false tells clock says far counts scene pass new (wished led lost count told.wish) stop
  named_holds told (stops.Broke cause) leaves = absurd leaves
  named_holds told stops.NoMemory leaves = leaves
  named_holds told (stops.Fault fault) leaves = leaves
  named_holds told (stops.Recorded reason) leaves = leaves.1

  named_apart : (told : Told) (stop : Stop) → DescribeLeaves tells clock says far counts scene pass old new led lost count head told address (Err stop) → IsOfDesk stop
  named_apart told (stops.Broke cause) leaves = absurd leaves
  named_apart told stops.NoMemory leaves = tt
  named_apart told (stops.Fault fault) leaves = tt
  named_apart told (stops.Recorded reason) leaves = tt

  -- the desk didn't take what was told
  pub not_told : (told : Told) → IsToldOf handed head address key told → (stop : Stop) → DescribeLeaves tells clock says far counts scene pass old new led lost count head told address (Err stop)
      → NotTold tells clock says far counts scene pass new led lost count handed head address key stop
  not_told told is stop leaves = record { trace = wished led lost count told.wish; before = inr (told, is, refl); apart = named_apart told stop leaves; holds = named_holds told stop leaves }

  -- it did, and the round is planned, or not
  module _ (mid : View D O) (told : HasTold tells clock says far counts scene pass old mid led lost count handed head address key) where
    abbrev pub named_trace : Trace
    named_trace = told_with led lost count told.told.wish (tale_of head address told.told told.named.is.name)

    abbrev pub named_asking : Asking
    named_asking = first_asking pass (tale_of head address told.told told.named.is.name)

    pub named_live : LiveDesk tells clock says far counts scene pass mid named_trace
    named_live = told.named.is.live

    pub has_planned : (passes : List SlicePass) → PlanLeaves tells clock says far counts scene pass new named_trace named_asking (Ok passes) → HasPlanned tells clock says far counts scene pass old new led lost count handed head address key passes
    has_planned passes planned =
        record { told = told.told; is = told.is; named = record { listed = told.named.listed; lists = told.named.lists; is = record { name = told.named.is.name; free = told.named.is.free; planned = planned } } }

    -- before the first round they aren't used up
    plan_apart : (stop : Stop) → PlanLeaves tells clock says far counts scene pass new named_trace named_asking (Err stop) → IsOfDesk stop
    plan_apart (stops.Broke cause) leaves = absurd (let e = leaves.1 in omega (arith, e))
    plan_apart stops.NoMemory leaves = tt
    plan_apart (stops.Fault fault) leaves = tt
    plan_apart (stops.Recorded reason) leaves = tt

    pub not_planned : (stop : Stop) → PlanLeaves tells clock says far counts scene pass new named_trace named_asking (Err stop) → NotPlanned tells clock says far counts scene pass old new led lost count handed head address key stop
    not_planned stop leaves = record {
      trace = named_trace;
      before = inr (told.told, told.is, record { listed = told.named.listed; lists = told.named.lists; is = record { name = told.named.is.name; free = told.named.is.free; trace_is = refl } });
      apart = plan_apart stop leaves;
      holds = plan_holds tells clock says far counts scene pass new named_trace named_asking stop leaves;
    }

  pub not_begun : (stop : Stop) → NotTold tells clock says far counts scene pass new led lost count handed head address key stop → NotPlanned tells clock says far counts scene pass old new led lost count handed head address key stop
  not_begun stop none = record { trace = none.trace; before = inl none.before; apart = none.apart; holds = none.holds }
