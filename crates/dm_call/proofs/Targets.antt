-- What a path names, by the route that was found.
use Rattle.std.proofs.Common.{◌≡◌, ℕ, Bool, true, List, codes, Option, Some, None, refl, sym, ap, ◌∙◌, subst, Bor, if◌then◌else◌}
use Rattle.std.specs.Prelude.{MatchOption, option_and_then}
use Rattle.std.specs.List.{list_all}
use Rattle.std.specs.Option.{option_copied}
use Rattle.std.specs.Char.{is_ascii}
use Rattle.matchit.specs.Seek.{first}
use Rattle.matchit.specs.Params.{AllText, named, walk}
use Rattle.matchit.specs.Router.{RouteOf}
use Rattle.matchit.proofs.OnLiterals.{matchit_on_literals}
use Rattle.dm_call.specs.Numbers.{number_of}
use Rattle.dm_call.specs.Routes.{Routes, id_in, routes, target_at, target_by, target_of, with_route}
use Rattle.dm_call.specs.declared.routes.Spot.{Spot}
use Rattle.dm_call.specs.declared.call.Target.{Target}
use Rattle.dm_call.proofs.Ascii.{all_text, ascii_of}
use Rattle.dm_call.proofs.Numerals.{chosen}
use Rattle.dm_call.proofs.Finding.{Each, Found, found_seek}

abbrev IsPlain : RouteOf Spot → Type 0
IsPlain route = list_all is_ascii route.text ≡ true

each_plain : Each IsPlain routes
unfolding matchit_on_literals with_route
each_plain = (refl, (refl, (refl, (refl, (refl, (refl, (refl, (refl, (refl, tt)))))))))

of_found : (found : Option (RouteOf Spot)) (route : RouteOf Spot) → Found IsPlain found → found ≡ Some route → IsPlain route
of_found found route plain is = subst (Found IsPlain) is plain

told : (id : Option (Bor (List ℕ))) (part : Option (List ℕ)) → MatchOption id (part ≡ None) (λ value. part ≡ Some value.now) → option_copied id ≡ part
told None part is = sym is
told (Some value) part is = sym is

pub found_target : (rs : Routes) (path shown : List ℕ) (route : RouteOf Spot) (id : Option (Bor (List ℕ))) → rs ≡ routes → list_all is_ascii path ≡ true → shown ≡ path
    → first rs path ≡ Some route
    → (AllText (walk route.pattern route.text shown route.names 0 0) → MatchOption id (id_in shown route ≡ None) (λ value. id_in shown route ≡ Some value.now))
    → target_at route.value (option_and_then number_of (option_copied id)) ≡ target_of path
found_target rs path shown route id ours plain same found got =
    let here : first routes path ≡ Some route = subst (λ (r : Routes). first r path ≡ Some route) ours found in
    let text = of_found (first routes path) route (found_seek IsPlain 0 routes path each_plain) here in
    let told_of = subst (λ (p : List ℕ). AllText (walk route.pattern route.text p route.names 0 0) → MatchOption id (id_in p route ≡ None) (λ value. id_in p route ≡ Some value.now)) same got in
    let part : option_copied id ≡ id_in path route = told id (id_in path route) (told_of (all_text route.pattern route.text path route.names 0 0 (ascii_of route.text text) (ascii_of path plain))) in
    ap (λ (p : Option (List ℕ)). target_at route.value (option_and_then number_of p)) part
    ∙ sym (ap (option_and_then (target_by path)) here)
    ∙ sym (chosen (list_all is_ascii path) (option_and_then (target_by path) (first routes path)) None plain)
