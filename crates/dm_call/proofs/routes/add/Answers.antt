use Rattle.std.proofs.Common.{◌∙◌, sym}
use Rattle.matchit.specs.Route.{parse_route}
use Rattle.dm_call.specs.Routes.{with_route}
use Rattle.dm_call.proofs.routes.add.Goals as goal
use Rattle.dm_call.proofs.Inserted.{inserted_ok}

pub returns : goal.returns
unfolding with_route
returns c =
    inserted_ok (parse_route c.args.text.now) c.args.spot c.args.router.now c.insert.new.self c.insert.result (sym c.is_err.ensures.value ∙ c.if-is_err.false) c.insert.ensures
