-- The routes, and what a path names.
use Rattle.std.specs.Prelude.{ℕ, Bool, if◌then◌else◌, List, [], ◌∷◌, codes, Option, Some, None, option_map, option_and_then, Result, Ok, Err}
use Rattle.std.specs.List.{list_all}
use Rattle.std.specs.Char.{is_ascii}
use Rattle.matchit.specs.Rows.{RowsOf}
use Rattle.matchit.specs.Seek.{first}
use Rattle.matchit.specs.Route.{Scan, parse_route}
use Rattle.matchit.specs.Router.{RouteOf, route_from}
use Rattle.matchit.specs.Order.{placed}
use Rattle.matchit.specs.Params.{named, walk}
use Rattle.matchit.specs.declared.error.InsertError.{InsertError}
use Rattle.dm_types.specs.declared.item.ItemId.{ItemId}
use Rattle.dm_call.specs.Numbers.{number_of}
use Rattle.dm_call.specs.declared.routes.Spot.{Spot}
use Rattle.dm_call.specs.declared.routes.Spot.TheVariants as spots
use Rattle.dm_call.specs.declared.call.Target.{Target}
use Rattle.dm_call.specs.declared.call.Target.TheVariants as targets

-- the routes of a router
abbrev pub Routes : Type 0
Routes = RowsOf (RouteOf Spot)

-- one more route, as its text reads
abbrev pub with_read : Result Scan InsertError → Spot → Routes → Routes
with_read (Ok scan) spot routes = placed (scan.pattern, route_from scan spot) routes
with_read (Err error) spot routes = routes

-- the routes with one more
unfoldable pub with_route : List ℕ → Spot → Routes → Routes
with_route text spot routes = with_read (parse_route text) spot routes

abbrev pub item_routes : Routes
item_routes =
    with_route (codes "/items/{id}/cancel") spots.Cancel (
    with_route (codes "/items/{id}/resume") spots.Resume (
    with_route (codes "/items/{id}/pause") spots.Pause (
    with_route (codes "/items/{id}") spots.Item (
    with_route (codes "/items") spots.Items []))))

-- the routes of the service
abbrev pub routes : Routes
routes =
    with_route (codes "/stop") spots.Stop (
    with_route (codes "/report") spots.Report (
    with_route (codes "/history") spots.History (
    with_route (codes "/archive") spots.Archive item_routes)))

abbrev id_of : ℕ → ItemId
id_of id = record { 0 = id }

-- what a route names, with the id in the path
abbrev pub target_at : Spot → Option ℕ → Option Target
target_at spots.Items id = Some targets.Items
target_at spots.Item id = option_map (λ id. targets.Item (id_of id)) id
target_at spots.Pause id = option_map (λ id. targets.Pause (id_of id)) id
target_at spots.Resume id = option_map (λ id. targets.Resume (id_of id)) id
target_at spots.Cancel id = option_map (λ id. targets.Cancel (id_of id)) id
target_at spots.Archive id = Some targets.Archive
target_at spots.History id = Some targets.History
target_at spots.Report id = Some targets.Report
target_at spots.Stop id = Some targets.Stop

-- the part of the path that `{id}` stands for
abbrev pub id_in : List ℕ → RouteOf Spot → Option (List ℕ)
id_in path route = named (codes "id") (walk route.pattern route.text path route.names 0 0)

abbrev pub target_by : List ℕ → RouteOf Spot → Option Target
target_by path route = target_at route.value (option_and_then number_of (id_in path route))

-- What the path names, where it is ASCII, has a route, and its id is a number.
abbrev pub target_of : List ℕ → Option Target
target_of path = if list_all is_ascii path then option_and_then (target_by path) (first routes path) else None
