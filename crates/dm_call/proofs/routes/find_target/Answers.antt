use Rattle.std.proofs.Common.{◌∙◌}
use Rattle.dm_call.proofs.Targets.{found_target}
use Rattle.dm_call.proofs.routes.find_target.Goals as goal

pub returns-in-Ok : goal.returns-in-Ok
returns-in-Ok c =
    let params = c.in-Ok.found.params in
    c.target_with.ensures
    ∙ found_target c.args.router.now c.args.path.now params.path.now (record { pattern = params.pattern.now; text = params.text.now; names = params.names.now; value = c.in-Ok.found.value.now })
    c.get.result c.requires.ours c.requires.plain c.in-Ok.ensures.path c.in-Ok.ensures.found c.get.ensures
