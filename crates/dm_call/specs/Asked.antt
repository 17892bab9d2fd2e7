-- What a request asks: a call, or why it asks none.
use Rattle.std.specs.Prelude.{◌≡◌, ℕ, if◌then◌else◌, List, codes, Option, Some, None, Result, Ok, Err}
use Rattle.std.specs.Str.{bytes_eq}
use Rattle.dm_types.specs.declared.item.ItemId.{ItemId}
use Rattle.dm_call.specs.Routes.{target_of}
use Rattle.dm_call.specs.Query.{window_of}
use Rattle.dm_call.specs.Content.{named_of}
use Rattle.dm_call.specs.declared.call.Call.{Call}
use Rattle.dm_call.specs.declared.call.Call.TheVariants as calls
use Rattle.dm_call.specs.declared.call.CallFault.{CallFault}
use Rattle.dm_call.specs.declared.call.CallFault.TheVariants as faults
use Rattle.dm_call.specs.declared.call.Named.{Named}
use Rattle.dm_call.specs.declared.call.Refusal.{Refusal}
use Rattle.dm_call.specs.declared.call.Refusal.TheVariants as refusals
use Rattle.dm_call.specs.declared.call.Target.{Target}
use Rattle.dm_call.specs.declared.call.Target.TheVariants as targets
use Rattle.dm_call.specs.declared.call.Window.{Window}
use Rattle.dm_call.specs.declared.request.ApiRequest.{ApiRequest}
use Rattle.dm_call.specs.declared.request.MethodKind.{MethodKind}
use Rattle.dm_call.specs.declared.request.MethodKind.TheVariants as methods

-- the kind of a method, by its name
abbrev pub kind_of : List ℕ → MethodKind
kind_of name =
    if bytes_eq name (codes "GET") then methods.Get
    else (if bytes_eq name (codes "POST") then methods.Post
    else (if bytes_eq name (codes "DELETE") then methods.Delete else methods.Other))

-- part of a list
abbrev pub shows : (Window → Call) → Option Window → Result Call Refusal
shows call None = Err refusals.Query
shows call (Some window) = Ok (call window)

abbrev pub adds : Result Named Refusal → Result Call Refusal
adds (Ok named) = Ok (calls.Add named)
adds (Err refusal) = Err refusal

abbrev pub on_items : ApiRequest → MethodKind → Result Call Refusal
on_items request methods.Get = shows calls.Page (window_of request.query)
on_items request methods.Post = adds (named_of request.body)
on_items request methods.Delete = Err (refusals.Method targets.Items)
on_items request methods.Other = Err (refusals.Method targets.Items)

-- a route that has one method
abbrev pub on_get : MethodKind → Target → Result Call Refusal → Result Call Refusal
on_get methods.Get target call = call
on_get methods.Post target call = Err (refusals.Method target)
on_get methods.Delete target call = Err (refusals.Method target)
on_get methods.Other target call = Err (refusals.Method target)

abbrev pub on_post : MethodKind → Target → Call → Result Call Refusal
on_post methods.Get target call = Err (refusals.Method target)
on_post methods.Post target call = Ok call
on_post methods.Delete target call = Err (refusals.Method target)
on_post methods.Other target call = Err (refusals.Method target)

-- one item
abbrev pub on_item : MethodKind → ItemId → Result Call Refusal
on_item methods.Get id = Ok (calls.Show id)
on_item methods.Post id = Err (refusals.Method (targets.Item id))
on_item methods.Delete id = Ok (calls.Remove id)
on_item methods.Other id = Err (refusals.Method (targets.Item id))

-- what is asked of a target
abbrev pub asked_of : ApiRequest → Target → Result Call Refusal
asked_of request targets.Items = on_items request request.method
asked_of request (targets.Item id) = on_item request.method id
asked_of request (targets.Pause id) = on_post request.method (targets.Pause id) (calls.Pause id)
asked_of request (targets.Resume id) = on_post request.method (targets.Resume id) (calls.Resume id)
asked_of request (targets.Cancel id) = on_post request.method (targets.Cancel id) (calls.Cancel id)
asked_of request targets.Archive = on_post request.method targets.Archive calls.Archive
asked_of request targets.History = on_get request.method targets.History (shows calls.History (window_of request.query))
asked_of request targets.Report = on_get request.method targets.Report (Ok calls.Report)
asked_of request targets.Stop = on_post request.method targets.Stop calls.Stop

abbrev pub asked_at : ApiRequest → Option Target → Result Call Refusal
asked_at request None = Err refusals.Path
asked_at request (Some target) = asked_of request target

-- What the request asks: the path is looked at first, then the method, then the query or the content.
abbrev pub asked : ApiRequest → Result Call Refusal
asked request = asked_at request (target_of request.path)

-- the refusal is this request's, or memory was wanting
abbrev pub Refuses : {T : Type 0} → Result T Refusal → CallFault → Type 0
Refuses expected (faults.Refused refusal) = expected ≡ Err refusal
Refuses expected faults.NoMemory = Unit {0}
