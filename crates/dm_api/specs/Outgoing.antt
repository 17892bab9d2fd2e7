-- What goes out to a connection, by what was read of it.
use Rattle.std.specs.Prelude.{◌≡◌, ◌⊎◌, ℕ, Option, Some, None, Result, Ok, Err}
use Rattle.dm_types.specs.declared.memory.NoMemory.{NoMemory}
use Rattle.dm_call.specs.declared.request.ApiRequest.{ApiRequest}
use Rattle.dm_hear.specs.declared.fault.ApiFault.{ApiFault}
use Rattle.dm_hear.specs.declared.fault.ApiFault.TheVariants as faults
use Rattle.dm_hear.specs.declared.fault.Rule.TheVariants as rules
use Rattle.dm_response.specs.Reply.{trouble_of}
use Rattle.dm_response.specs.declared.reply.ApiReply.{ApiReply}
use Rattle.dm_response.specs.declared.trouble.Trouble.{Trouble}
use Rattle.dm_response.specs.declared.trouble.Trouble.TheVariants as troubles
use Rattle.dm_api.specs.declared.outgoing.Outgoing.{Outgoing}
use Rattle.dm_api.specs.declared.outgoing.Outgoing.TheVariants as outgoing

-- the reply that goes out, where one does
abbrev pub reply_in : Outgoing → Option ApiReply
reply_in (outgoing.Reply reply) = Some reply
reply_in outgoing.Memory = Some (trouble_of troubles.Memory)
reply_in outgoing.Nothing = None

-- the reply of an answer
abbrev pub reply_of_answer : Result ApiReply NoMemory → Option ApiReply
reply_of_answer (Ok reply) = Some reply
reply_of_answer (Err wanting) = Some (trouble_of troubles.Memory)

-- the reply to a request that isn't one, or to want of memory
abbrev pub Refused : Trouble → Option ApiReply → Type 0
Refused trouble reply = (reply ≡ Some (trouble_of trouble)) ⊎ (reply ≡ Some (trouble_of troubles.Memory))

-- the request was answered so: by a reply, or for want of memory by that
abbrev pub AnsweredBy : (Result ApiReply NoMemory → Type 0) → Option ApiReply → Type 0
AnsweredBy answers None = ⊥
AnsweredBy answers (Some reply) = answers (Ok reply) ⊎ ((wanting : NoMemory) × answers (Err wanting) × (reply ≡ trouble_of troubles.Memory))

-- what goes out where no request was read
abbrev pub RefusedBy : ApiFault → Option ApiReply → Type 0
RefusedBy (faults.Rule rules.Head) reply = Refused troubles.Head reply
RefusedBy (faults.Rule rules.Length) reply = Refused troubles.Length reply
RefusedBy faults.TooLarge reply = Refused troubles.Size reply
RefusedBy faults.Cut reply = reply ≡ None
RefusedBy faults.Source reply = reply ≡ None
RefusedBy faults.NoMemory reply = reply ≡ Some (trouble_of troubles.Memory)

-- What goes out where this was read, of a service that answers so. Where no request was read, the service is as it was.
abbrev pub Outgoes : {V : Type 0} → (V → ApiRequest → ℕ → Result ApiReply NoMemory → V → Type 0) → V → V → Result ApiRequest ApiFault → ℕ → Option ApiReply → Type 0
Outgoes answers old new (Ok request) now reply = AnsweredBy (λ result. answers old request now result new) reply
Outgoes answers old new (Err fault) now reply = RefusedBy fault reply × (new ≡ old)
