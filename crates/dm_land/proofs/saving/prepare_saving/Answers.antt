use Rattle.std.proofs.Common.{sym, ap, ◌∙◌, arith}
use Rattle.dm_types.specs.declared.entry.Entry.TheVariants as entries
use Rattle.dm_types.specs.declared.slices.Slice.{Slice}
use Rattle.std.proofs.Common.{List}
use Rattle.dm_store.specs.Lives.{life_in}
use Rattle.dm_store.specs.Store.{view_of}
use Rattle.dm_land.proofs.Saves.{own_life, told_unsaved}
use Rattle.dm_land.proofs.saving.prepare_saving.Goals as goal

pub returns-in-Ok : goal.returns-in-Ok
returns-in-Ok g c =
    let here = sym (c.in-Some.ensures ∙ ap (life_in c.args.id.0) c.deref.ensures.value) in
    let there = sym c.in-Some-get.ensures in
    let more = c.if-life-eq0.false in
    record {
      saving = record {
        item = c.in-Some-get.item.now;
        life = c.in-Some.life.now;
        there = there;
        lives = here;
        told = told_unsaved c.in-Some-get.item.now c.in-Some.life.now (own_life (view_of c.args.store.now) c.args.id c.in-Some-get.item.now c.in-Some.life.now (c.requires.store.desk.lives c.requires.whole) there here) (omega (arith, more));
        is = c.in-Ok.ensures.entry ∙ ap (λ (slices : List Slice). entries.Progress c.args.id slices) c.in_ok-slices.ensures.value;
      };
      unsaved = omega (arith, more);
      readied = c.in-Ok.ensures.readied;
    }
