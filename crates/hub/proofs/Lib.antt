pub mod Tops
pub mod Totals
