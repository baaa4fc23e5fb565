pub mod ImageWalk
pub mod PagesPrinted
pub mod PagesText
pub mod Drill
pub mod Laws
pub mod Print
pub mod ReadText
pub mod Steps
