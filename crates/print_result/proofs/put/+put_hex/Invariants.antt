use Rattle.print_result.proofs.put.+put_hex.Given as goal

abbrev pub decreases-put_hex : goal.decreases-put_hex
decreases-put_hex g l = l.k
