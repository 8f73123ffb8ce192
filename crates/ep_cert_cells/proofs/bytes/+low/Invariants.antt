use Rattle.ep_cert_cells.proofs.bytes.+low.Given as goal

abbrev pub decreases-low : goal.decreases-low
decreases-low l = l.count
