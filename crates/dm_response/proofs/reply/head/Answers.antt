use Rattle.std.proofs.Common.{◌≡◌, ◌∙◌, ◌++◌, List, ℕ, ap, codes, refl}
use Rattle.std.specs.Fmt.{decimal}
use Rattle.http.specs.StatusCode.{status_text}
use Rattle.dm_response.specs.Reply.{allow_field, crlf, field, media_text}
use Rattle.dm_response.proofs.reply.head.Goals as goal

pub returns : goal.returns
returns c =
    let line = codes "HTTP/1.1 " ++ status_text c.args.status ++ crlf in
    let media = field (codes "Content-Type") (media_text c.args.media) in
    let size = field (codes "Content-Length") (decimal c.args.size) in
    let close = field (codes "Connection") (codes "close") in
    let allow = allow_field c.args.target in
    let first : c.add_field.new.text ≡ line ++ media = rw (c.in_ok-add_field.ensures, c.in_ok-text.ensures, c.media_bytes.ensures) refl in
    let second : c.add_field-2.new.text ≡ (line ++ media) ++ size = rw (c.in_ok-add_field-2.ensures, first, c.bytes.ensures, c.in_ok-digits.ensures) refl in
    let third : c.add_field-3.new.text ≡ ((line ++ media) ++ size) ++ close = rw (c.in_ok-add_field-3.ensures, second) refl in
    let fourth : c.add_allowed.new.text ≡ (((line ++ media) ++ size) ++ close) ++ allow = rw (c.in_ok-add_allowed.ensures, third) refl in
    c.in_ok-push_bytes.ensures.ok ∙ ap (λ (t : List ℕ). t ++ crlf) fourth
