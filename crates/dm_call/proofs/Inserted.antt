-- What an insertion that was answered Ok makes of the routes.
use Rattle.std.proofs.Common.{◌≡◌, Bool, true, false, Result, Ok, Err}
use Rattle.std.specs.Prelude.{is_err}
use Rattle.std.proofs.lemmas.Bool.{false≢true}
use Rattle.matchit.specs.Route.{Scan}
use Rattle.matchit.specs.Router.{InsertsRead}
use Rattle.matchit.specs.declared.error.InsertError.{InsertError}
use Rattle.dm_call.specs.Routes.{Routes, with_read}
use Rattle.dm_call.specs.declared.routes.Spot.{Spot}

inserted : (scan : Result Scan InsertError) (spot : Spot) (old new : Routes) → InsertsRead scan spot old new (Ok tt) → new ≡ with_read scan spot old
inserted (Ok s) spot old new is = is.1
inserted (Err e) spot old new is = is.0

pub inserted_ok : (scan : Result Scan InsertError) (spot : Spot) (old new : Routes) (r : Result (Unit {0}) InsertError) → is_err r ≡ false → InsertsRead scan spot old new r → new ≡ with_read scan spot old
inserted_ok scan spot old new (Ok done) ok is = inserted scan spot old new is
inserted_ok scan spot old new (Err e) ok is = absurd (false≢true (sym_of ok))
  where
    sym_of : true ≡ false → false ≡ true
    sym_of e = cc
