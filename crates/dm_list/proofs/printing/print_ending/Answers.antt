use Rattle.std.proofs.Common.{ℕ, List, ◌++◌, inr, refl, ◌∙◌, ap, subst}
use Rattle.dm_does.specs.Printing.{WritesSome}
use Rattle.dm_list.proofs.Written.{wrote_all}
use Rattle.dm_list.proofs.printing.print_ending.Goals as goal

pub returns-in-Err-Failed-write_all : goal.returns-in-Err-Failed-write_all
returns-in-Err-Failed-write_all g c =
    let S = g.S.Sink in
    inr (record {
      status_is = refl;
      cause = inr (c.in-Err-Failed-write_all.field-0, c.in-Err-Failed-write_all.ensures.cause.cause);
      out_front = λ tells.
          wrote_all (S.written c.args.out.now) c.args.ending.now.out (S.written c.write_all.new.sink) (c.in-Ok.ensures.written tells ∙ ap (λ (t : List ℕ). S.written c.args.out.now ++ t) c.out_text.ensures);
      errs_front = λ tells. subst (λ (t : List ℕ). WritesSome (S.written c.args.errs.now) (S.written c.write_all-2.new.sink) t) c.errs_text.ensures (c.in-Err-Failed-write_all.ensures.written tells);
    })
