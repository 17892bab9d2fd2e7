-- The bytes of a piece are said by the origin, each at its place.
use Rattle.std.proofs.Common.{◌≡◌, ℕ, ◌+◌, suc, List, [], ◌∷◌, ◌++◌, length, Some, sym, ◌∙◌, ap, subst, inl, inr, arith}
use Rattle.std.specs.Prelude.{slice_get}
use Rattle.dm_types.specs.declared.address.Address.{Address}
use Rattle.dm_types.specs.declared.item.Key.{Key}
use Rattle.dm_edge.specs.declared.wanted.Wanted.{Wanted}
use Rattle.dm_edge.specs.Fair.{IsHonest, first_of, key_of}
use Rattle.dm_edge.specs.Wire.{Purpose, Told}
use Rattle.dm_request.specs.Fault.{IsRead}
use Rattle.dm_slice.specs.declared.plan.Part.{Part}
use Rattle.dm_reply.specs.Content.{Reader}
use Rattle.dm_reply.proofs.Said.{said_by}
use Rattle.dm_store.specs.Origin.{IsSaidOf}
use Rattle.dm_attempt.specs.Asking.{Asking, IsAsked}
use Rattle.dm_rounds.specs.Lanes.{HasGiven}

slice_right : (xs ys : List ℕ) (k : ℕ) → slice_get (xs ++ ys) (length xs + k) ≡ slice_get ys k
slice_right [] ys k = ap (λ (n : ℕ). slice_get ys n) (let e : 0 + k ≡ k = omega arith in e)
slice_right (x ∷ xs) ys k = ap (λ (n : ℕ). slice_get (x ∷ (xs ++ ys)) n) (let e : suc (length xs) + k ≡ suc (length xs + k) = omega arith in e) ∙ slice_right xs ys k

pub said_piece : (tells : Type 0) (says : Address → Key → ℕ → ℕ → Type 0) (purpose : Purpose) (told : Told) (asking : Asking) (part : Part) (wanted : Wanted) (reader : Reader) (bytes piece came : List ℕ) (at : ℕ)
    → IsHonest tells says purpose told → IsAsked tells asking part wanted purpose told.sent came → (tells → HasGiven asking.key purpose wanted told.given reader (bytes ++ piece)) → IsRead asking.purpose.address.text asking.purpose.address
    → at ≡ part.first + length bytes → (k byte : ℕ) → slice_get piece k ≡ Some byte → IsSaidOf says asking.purpose.address.text asking.key (at + k) byte
said_piece tells says purpose told asking part wanted reader bytes piece came at (inl all) asks given reads at_is k byte here =
    record { address = asking.purpose.address; reads = reads; said = all asking.purpose.address asking.key (at + k) byte }
said_piece tells says purpose told asking part wanted reader bytes piece came at (inr fair) asks given reads at_is k byte here =
    let has = given fair.0 in
    let said = (said_by purpose told wanted has.head reader (bytes ++ piece) has.tag (inr fair) (asks.sent_is fair.0) has.has has.tag_is).each (length bytes + k) byte (slice_right bytes piece k ∙ here) in
    let first = asks.first_is in
    let place : first_of wanted + (length bytes + k) ≡ at + k = omega (arith, first, at_is) in
    record {
      address = asking.purpose.address;
      reads = reads;
      said = subst (λ (n : ℕ). says asking.purpose.address asking.key n byte) place
          (subst (λ (key : Key). says asking.purpose.address key (first_of wanted + (length bytes + k)) byte) (sym has.key_is)
          (subst (λ (p : Purpose). says p.address (key_of purpose has.tag) (first_of wanted + (length bytes + k)) byte) (asks.purpose_is fair.0) said));
    }
