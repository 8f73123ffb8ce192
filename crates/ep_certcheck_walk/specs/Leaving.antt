-- The ways by which statements are left, as the checker names them.
use Rattle.ep_core.specs.Exec.{Way, on, broken, continued, returned}
use Rattle.ep_certcheck_walk.specs.declared.parts.Leaving.{Leaving}
use Rattle.ep_certcheck_walk.specs.declared.parts.Leaving.TheVariants.{On, Broken, Continued, Returned}

abbrev pub way_of_leaving : Leaving → Way
way_of_leaving On = on
way_of_leaving Broken = broken
way_of_leaving Continued = continued
way_of_leaving Returned = returned
