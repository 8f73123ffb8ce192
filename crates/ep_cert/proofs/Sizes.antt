-- How many bytes a certificate takes at least.
use Rattle.std.proofs.Common.{ℕ, ◌*◌, ◌≤◌, List, [], ◌∷◌, ◌++◌, length, arith, ap}
use Rattle.std.proofs.lemmas.List.{length-append}
use Rattle.ep_cells.specs.States.{Known}
use Rattle.ep_cert_cells.specs.Numbers.{Numbers}
use Rattle.ep_cert_cells.specs.Bytes.{low}
use Rattle.ep_cert.specs.Certificate.{Certificate, head_bytes, heads_bytes, opening_bytes, cert_bytes, CertSpells}

head_size : (h : Known Numbers) → 4 ≤ length (head_bytes h.cells)
unfolding head_bytes low
head_size h = omega arith

heads_size : (hs : List (Known Numbers)) → 4 * length hs ≤ length (heads_bytes hs)
heads_size [] = omega arith
heads_size (h ∷ hs) =
    let a = head_size h in
    let b = heads_size hs in
    let e = length-append (head_bytes h.cells) (heads_bytes hs) in
    omega (arith, a, b, e)

all_size : (c : Certificate) → length (heads_bytes c.heads) ≤ length (cert_bytes c)
unfolding cert_bytes
all_size c =
    let last : List ℕ = low 4 (length c.source) ++ c.source in
    let e = length-append (opening_bytes c) (heads_bytes c.heads ++ last) in
    let f = length-append (heads_bytes c.heads) last in
    omega (arith, e, f)

-- each head takes four bytes
pub heads_within : (bytes : List ℕ) (c : Certificate) → CertSpells bytes c → 4 * length c.heads ≤ length bytes
heads_within bytes c s =
    let a = heads_size c.heads in
    let b = all_size c in
    let e = ap length s.bytes_are in
    omega (arith, a, b, e)
