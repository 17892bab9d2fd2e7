use Rattle.std.proofs.Common.{◌≡◌, ◌++◌, ◌∷◌, [], ℕ, length, subst, arith}
use Rattle.dm_disk.specs.declared.call.Act.TheVariants as acts
use Rattle.dm_disk.proofs.Puts.{puts}
use Rattle.dm_disk.proofs.image.put.Goals as goal

pub returns : goal.returns
returns c =
    let calls = c.args.log.now.calls in
    let number : c.len-file.result ≡ length calls.items = omega (arith, c.len-file.ensures, calls.ok.0) in
    puts calls.items c.create.new.self.calls.items c.write.new.self.calls.items c.sync.new.self.calls.items c.args.area c.args.name.now c.args.bytes.now
    (rw c.in_ok-name.ensures at c.in_ok-create.ensures.ok)
    (subst (λ (n : ℕ). c.write.new.self.calls.items ≡ c.create.new.self.calls.items ++ record { area = c.args.area; act = acts.Write n 0 c.args.bytes.now } ∷ []) number c.in_ok-write.ensures.ok)
    (subst (λ (n : ℕ). c.sync.new.self.calls.items ≡ c.write.new.self.calls.items ++ record { area = c.args.area; act = acts.Sync n } ∷ []) number c.in_ok-sync.ensures.ok)
